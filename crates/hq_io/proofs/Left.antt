-- What the source tells behind a piece: at the end of the input it has nothing left.
use Rattle.std.proofs.Common.{◌≡◌, ◌++◌, ℕ, true, false, List, [], ◌∷◌, Option, None, Some, IsSome, refl}
use Rattle.std.specs.Io.KnownBytes.{prepend_known, Consumes, IsAtEnd}
use Rattle.hq_io.specs.Gathering.{Stopped, Uncut, is_rest}
use Rattle.hq_io.specs.declared.gather.Stop.{Stop}
use Rattle.hq_io.specs.declared.gather.Stop.TheVariants as stops

none-left : (held : List ℕ) (left : Option (List ℕ)) → IsAtEnd (prepend_known held left) → IsAtEnd left
none-left held None e = tt
none-left [] (Some xs) e = e
none-left (b ∷ bs) (Some xs) e = cc

pub end-left : (stop : Stop) (old left : Option (List ℕ)) (held text : List ℕ) (before now : ℕ) → is_rest stop ≡ true → Stopped stop old (prepend_known held left) text before now → IsAtEnd left
end-left (stops.Ended long) old left held text before now rest s = cc
end-left (stops.Rest long) old left held text before now rest s = none-left held left s.3
end-left stops.Limit old left held text before now rest s = cc

-- what told its bytes tells them still
still-told : (old new : List ℕ) (left left' : Option (List ℕ)) (seen : List ℕ) → Consumes (prepend_known old left) (prepend_known new left') seen → IsSome left → IsSome left'
still-told old new None left' seen s is = absurd (cc)
still-told old new (Some xs) None seen s is = absurd s
still-told old new (Some xs) (Some ys) seen s is = refl

pub stop-told : (stop : Stop) (old new : List ℕ) (left left' : Option (List ℕ)) (text : List ℕ) (before now : ℕ) → Stopped stop (prepend_known old left) (prepend_known new left') text before now → IsSome left → IsSome left'
stop-told (stops.Ended long) old new left left' text before now s = still-told old new left left' _ s.2
stop-told (stops.Rest long) old new left left' text before now s = still-told old new left left' _ s.2
stop-told stops.Limit old new left left' text before now s = still-told old new left left' _ s.0.2

pub uncut-told : (old new : List ℕ) (left left' : Option (List ℕ)) (before now : ℕ) → Uncut (prepend_known old left) (prepend_known new left') before now → IsSome left → IsSome left'
uncut-told old new left left' before now u = still-told old new left left' _ u.2
