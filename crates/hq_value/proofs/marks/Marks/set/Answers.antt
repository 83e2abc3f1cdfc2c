use Rattle.std.proofs.Common.{◌≡◌, ◌<◌, ℕ, Bool, List, length, take, set, ap, ◌∙◌, arith, length-take}
use Rattle.std.proofs.Math.Seq.{take-set-lt}
use Rattle.hq_value.proofs.marks.Marks.set.Goals as goal

-- a change within the first n is seen in them
set-shown : (n : ℕ) (xs ys : List Bool) (i : ℕ) (b : Bool) → take n xs ≡ ys → i < length ys → take n (set xs i b) ≡ set ys i b
set-shown n xs ys i b is within =
    let short : length (take n xs) ≡ length ys = ap length is in
    take-set-lt n xs i b (omega (arith, within, short, length-take n xs)) ∙ ap (λ zs. set zs i b) is

pub returns : goal.returns
returns c = set-shown c.self.inside.nodes c.self.inside.up c.args.self.now c.args.node c.args.up c.self.view_is c.requires
