-- What a link carries after an exchange is earlier than the next motion.
use Rattle.std.proofs.Common.{◌⊎◌, inl, inr, ℕ, ◌+◌, List, Option, Some, None, sym, subst, arith}
use Rattle.hq_link.specs.declared.datagram.Datagram.{Datagram}
use Rattle.hq_link.specs.Reading.{gram_at}
use Rattle.hq_link.specs.Link.{Told, IsIn}
use Rattle.hq_pump.specs.Safe.{AreEarlier, IsEarlier, Grows, IsOwn}

-- what is earlier than a motion is earlier than the next
still-earlier : (q m : ℕ) (d : Option Datagram) → IsEarlier q m d → IsEarlier q (m + 1) d
still-earlier q m None h = tt
still-earlier q m (Some d) (inl less) = inl less
still-earlier q m (Some d) (inr same) = inr (same.0, let less = same.1 in omega (arith, less))

-- a datagram of a motion is earlier than the next
own-earlier : (q m : ℕ) (x : List ℕ) → IsOwn q m x → IsEarlier q (m + 1) (gram_at x)
own-earlier q m x own = subst (IsEarlier q (m + 1)) (sym own.spelled) (inr (own.query, let is = own.motion in omega (arith, is)))

pub next-motion : (q m : ℕ) (old new : Told) → AreEarlier q m old → Grows old new (IsOwn q m) → AreEarlier q (m + 1) new
next-motion q m None None h g = tt
next-motion q m None (Some new) h g = absurd g
next-motion q m (Some old) None h g = absurd g
next-motion q m (Some old) (Some new) h g = λ x is. by x (g x is)
  where
    by : (x : List ℕ) → IsIn x old ⊎ IsOwn q m x → IsEarlier q (m + 1) (gram_at x)
    by x (inl before) = still-earlier q m (gram_at x) (h x before)
    by x (inr own) = own-earlier q m x own
