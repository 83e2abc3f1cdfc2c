-- A cut behind the finished groups keeps them.
use Rattle.std.proofs.Common.{◌≡◌, ◌∙◌, ◌-◌, ℕ, List, length, take, ap, arith}
use Rattle.hq_store.specs.Pages.{Grown, flat, joined, bytes_in}
use Rattle.hq_store.proofs.Joined.{cut_behind}
use Rattle.hq_store.proofs.growing.GrowingBytes.cut.Goals as goal

abbrev the_grown : List ℕ → ℕ → Grown
the_grown bytes fixed = record { bytes = bytes; fixed = fixed }

-- two that are equal part by part
grown : (bytes bytes' : List ℕ) (fixed fixed' : ℕ) → bytes ≡ bytes' → fixed ≡ fixed' → the_grown bytes fixed ≡ the_grown bytes' fixed'
grown bytes bytes' fixed fixed' same_bytes same_fixed =
    ap (λ (xs : List ℕ). the_grown xs fixed) same_bytes ∙ ap (λ (n : ℕ). the_grown bytes' n) same_fixed

pub returns : goal.returns
returns c =
    let groups : List ℕ = flat (flat c.self.inside.groups.items) in
    let behind : List ℕ = joined c.self.inside.pages.items (joined c.self.inside.runs.items c.self.inside.unshared.items) in
    let fixed : length groups ≡ c.args.self.now.fixed = ap (λ (g : Grown). g.fixed) c.self.view_is in
    let all : bytes_in c.self.inside.groups.items c.self.inside.pages.items c.self.inside.runs.items c.self.inside.unshared.items ≡ c.args.self.now.bytes =
    ap (λ (g : Grown). g.bytes) c.self.view_is in
    let cut : bytes_in c.self.inside.groups.items c.cut.new.pages.items c.cut.new.runs.items c.cut.new.unshared.items ≡ take c.args.len c.args.self.now.bytes =
    cut_behind groups behind c.args.len (c.args.len - c.fixed.result) _ (omega arith) c.cut.ensures.bytes
    ∙ ap (λ (bytes : List ℕ). take c.args.len bytes) all in
    grown _ _ _ _ cut fixed
