-- Rows in the bytes of their receivers.
--     CanGo out row                   a row that goes by its keys has them, and there is a key
--     place_of out owner row          the list to which a row's bytes go: that of the node that it goes to by its keys,
--                                     and else the first, which is for all receivers
--     list_of out node                the list that a receiver gets
--     bytes_at lists n                the bytes at a place, none where it is past the end
--     parcel_at parcels sender n      the same of a sender's lists
--     HasParcels out owner rows lists the lists have the bytes of the rows that go to them, in their order
use Rattle.std.specs.Prelude.{◌≡◌, ◌==◌, ◌<◌, ℕ, zero, suc, List, [], ◌∷◌, length, filter, Vec}
use Rattle.hq_value.specs.Bucket.{HasColumns}
use Rattle.hq_algebra.specs.declared.plan.Motion.{Motion}
use Rattle.hq_algebra.specs.declared.plan.Motion.TheVariants as motion
use Rattle.hq_meaning.specs.Rows.{Row}
use Rattle.hq_meaning.specs.Nodes.{home}
use Rattle.hq_motion.specs.Bytes.{rows_bytes}
use Rattle.hq_dispatch.specs.declared.parcels.Parcels.{Parcels}

-- a row that goes by its keys has them, and there is a key
abbrev pub CanGo : Motion → Row → Type 0
CanGo motion.Gather row = Unit {0}
CanGo motion.Broadcast row = Unit {0}
CanGo (motion.Redistribute keys) row = (0 < length keys) × HasColumns keys row
CanGo motion.Result row = Unit {0}

-- the list to which a row's bytes go: that of the node that it goes to by its keys, and else the first
abbrev pub place_of : Motion → List ℕ → Row → ℕ
place_of motion.Gather owner row = 0
place_of motion.Broadcast owner row = 0
place_of (motion.Redistribute keys) owner row = home owner keys row
place_of motion.Result owner row = 0

-- the list that a receiver gets
abbrev pub list_of : Motion → ℕ → ℕ
list_of motion.Gather node = 0
list_of motion.Broadcast node = 0
list_of (motion.Redistribute keys) node = node
list_of motion.Result node = 0

-- the bytes at a place, none where it is past the end
abbrev pub bytes_at : {A : Type 0} → List (Vec ℕ A) → ℕ → List ℕ
bytes_at [] n = []
bytes_at (x ∷ xs) zero = x.items
bytes_at (x ∷ xs) (suc n) = bytes_at xs n

-- the same of a sender's lists
abbrev pub parcel_at : List Parcels → ℕ → ℕ → List ℕ
parcel_at [] sender n = []
parcel_at (p ∷ ps) zero n = bytes_at p.lists.items n
parcel_at (p ∷ ps) (suc sender) n = parcel_at ps sender n

-- the lists have the bytes of the rows that go to them, in their order
abbrev pub HasParcels : {A : Type 0} → Motion → List ℕ → List Row → List (Vec ℕ A) → Type 0
HasParcels out owner rows lists = (n : ℕ) → n < 16 → bytes_at lists n ≡ rows_bytes (filter (λ row. place_of out owner row == n) rows)
