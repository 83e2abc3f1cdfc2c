-- What a pool does is an entry of the log.
use Rattle.std.proofs.Common.{◌≡◌, ◌↔◌, ℕ, true, false, cond, eqb, List, Option, Some, None, IsNone, IfSome, is_some, set, position, refl, sym, ap, subst, ◌∙◌}
use Rattle.std.specs.List.{list_any, list_all}
use Rattle.std.proofs.lemmas.Bool.{eq-eqb}
use Rattle.std.proofs.lemmas.List.{map-set}
use Rattle.hq_value.specs.declared.entry.EntryKind.TheVariants as entry
use Rattle.hq_log.specs.declared.place.Next.{Next}
use Rattle.hq_log.specs.declared.place.Next.TheVariants as which
use Rattle.hq_log.specs.Places.{is_dirty, is_out, next_place}
use Rattle.hq_log.specs.Pools.{places_after}
use Rattle.hq_log.proofs.Nexts.{next_place-AllOut, none_passes, not_found}
use Rattle.hq_pool.specs.declared.slot.Slot.{Slot}
use Rattle.hq_pool.specs.declared.slot.Slot.TheVariants.{Out, Sweeping}
use Rattle.hq_pool.specs.declared.lent.Lent.{Lent}
use Rattle.hq_pool.specs.declared.lent.Lent.TheVariants as lent
use Rattle.hq_pool.specs.Slots.{place_of, places}
use Rattle.hq_pool.specs.Lends.{LendsNext, LendsTo, SweepsLane, SweepsAny, entry_of}

-- a lane of the table becomes what its slot is
pub places-set : {T : Type 0} (slots : List (Slot T)) (t n : ℕ) (slot : Slot T) → places (set slots n slot) ≡ cond (eqb t t) (set (places slots) n (place_of slot)) (places slots)
places-set slots t n slot = map-set place_of slots n slot ∙ ap (λ b. cond b (set (places slots) n (place_of slot)) (places slots)) (sym (eq-eqb t t refl))

LendsNext-entry : {T : Type 0} (k t : ℕ) (old new : List (Slot T)) (next : Next) (answer : Lent T) → LendsNext k old next answer new → places new ≡ places_after t (places old) k (entry_of t answer)
LendsNext-entry k t old new (which.Clean n) answer h = ap places h.3 ∙ places-set old t n (Out k) ∙ sym (ap (λ a. places_after t (places old) k (entry_of t a)) h.2)
LendsNext-entry k t old new (which.Dirty n) answer h = ap places h.3 ∙ places-set old t n (Sweeping k) ∙ sym (ap (λ a. places_after t (places old) k (entry_of t a)) h.2)
LendsNext-entry k t old new (which.Unborn n) answer h = ap places h.2 ∙ places-set old t n (Out k) ∙ sym (ap (λ a. places_after t (places old) k (entry_of t a)) h.1)
LendsNext-entry k t old new which.AllOut answer h = ap places h.1 ∙ sym (ap (λ a. places_after t (places old) k (entry_of t a)) h.0)

-- what is lent is an entry of the log
pub LendsTo-entry : {T : Type 0} (k t : ℕ) (inside old new : List (Slot T)) (answer : Lent T) → inside ≡ old → LendsTo k inside answer new → places new ≡ places_after t (places old) k (entry_of t answer)
LendsTo-entry k t inside old new answer same h =
    subst (λ slots. places new ≡ places_after t (places slots) k (entry_of t answer)) same (LendsNext-entry k t inside new (next_place (places inside)) answer h)

LendsNext-AllOut : {T : Type 0} (k : ℕ) (old new : List (Slot T)) (next : Next) (answer : Lent T) → LendsNext k old next answer new → (answer ≡ lent.AllOut 64) ↔ (next ≡ which.AllOut)
LendsNext-AllOut k old new (which.Clean n) answer h = (λ e. let clash = sym h.2 ∙ e in cc, λ e. cc)
LendsNext-AllOut k old new (which.Dirty n) answer h = (λ e. let clash = sym h.2 ∙ e in cc, λ e. cc)
LendsNext-AllOut k old new (which.Unborn n) answer h = (λ e. let clash = sym h.1 ∙ e in cc, λ e. cc)
LendsNext-AllOut k old new which.AllOut answer h = (λ e. refl, λ e. h.0)

-- all lanes are out exactly where none is next
pub LendsTo-AllOut : {T : Type 0} (k : ℕ) (inside old new : List (Slot T)) (answer : Lent T) → inside ≡ old → LendsTo k inside answer new → (answer ≡ lent.AllOut 64) ↔ (list_all is_out (places old) ≡ true)
LendsTo-AllOut k inside old new answer same h =
    let by_next = LendsNext-AllOut k inside new (next_place (places inside)) answer h in
    let next = next_place-AllOut (places inside) in
    subst (λ slots. (answer ≡ lent.AllOut 64) ↔ (list_all is_out (places slots) ≡ true)) same (λ e. next.0 (by_next.0 e), λ out. by_next.1 (next.1 out))

SweepsLane-none : {T : Type 0} (k : ℕ) (old new : List (Slot T)) (at : Option ℕ) (lane : Option (ℕ × T)) → SweepsLane k old at lane new → (IsNone lane → at ≡ None) × (at ≡ None → IsNone lane)
SweepsLane-none k old new (Some n) lane h = (λ e. let clash = sym (ap is_some h.2) ∙ e in cc, λ e. cc)
SweepsLane-none k old new None lane h = (λ e. refl, λ e. ap is_some h.0)

-- no lane is swept exactly where none has a tail
pub SweepsAny-none : {T : Type 0} (k : ℕ) (inside old new : List (Slot T)) (lane : Option (ℕ × T)) → inside ≡ old → SweepsAny k inside lane new → IsNone lane ↔ (list_any is_dirty (places old) ≡ false)
SweepsAny-none k inside old new lane same h =
    let found = SweepsLane-none k inside new (position is_dirty (places inside)) lane h in
    subst (λ slots. IsNone lane ↔ (list_any is_dirty (places slots) ≡ false)) same
    (λ none. none_passes is_dirty (places inside) (found.0 none), λ none. found.1 (not_found is_dirty (places inside) none))

SweepsLane-entry : {T : Type 0} (k : ℕ) (old new : List (Slot T)) (at : Option ℕ) (lane : Option (ℕ × T)) → SweepsLane k old at lane new
    → IfSome lane (λ swept. (t : ℕ) → places new ≡ places_after t (places old) k (entry.Sweep t swept.0))
SweepsLane-entry {T} k old new (Some n) lane h =
    let seen : Option (ℕ × T) → Type 0 = λ o. IfSome o (λ swept. (t : ℕ) → places new ≡ places_after t (places old) k (entry.Sweep t swept.0)) in
    subst seen (sym h.2) (λ t. ap places h.3 ∙ places-set old t n (Sweeping k))
SweepsLane-entry {T} k old new None lane h =
    let seen : Option (ℕ × T) → Type 0 = λ o. IfSome o (λ swept. (t : ℕ) → places new ≡ places_after t (places old) k (entry.Sweep t swept.0)) in
    subst seen (sym h.0) tt

-- a lane that is swept is an entry of the log
pub SweepsAny-entry : {T : Type 0} (k : ℕ) (inside old new : List (Slot T)) (lane : Option (ℕ × T)) → inside ≡ old → SweepsAny k inside lane new
    → IfSome lane (λ swept. (t : ℕ) → places new ≡ places_after t (places old) k (entry.Sweep t swept.0))
SweepsAny-entry k inside old new lane same h =
    subst (λ slots. IfSome lane (λ swept. (t : ℕ) → places new ≡ places_after t (places slots) k (entry.Sweep t swept.0))) same
    (SweepsLane-entry k inside new (position is_dirty (places inside)) lane h)
