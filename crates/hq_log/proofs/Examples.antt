-- The definitions on small logs, and on wrong ones.
use Rattle.std.proofs.Common.{◌≡◌, ℕ, zero, suc, true, false, Some, List, [], ◌∷◌, ◌++◌, slice_get, refl, inl, inr}
use Rattle.std.proofs.Math.Dec.{eqb-suc-zero}
use Rattle.std.specs.List.{list_any}
use Rattle.hq_value.specs.declared.entry.Entry.{Entry}
use Rattle.hq_value.specs.declared.entry.EntryKind.{EntryKind}
use Rattle.hq_value.specs.declared.entry.EntryKind.TheVariants.{Look, Create, Lend, Sweep, Adopt, Commit, Back, Mark, Alter, Restart}
use Rattle.hq_log.specs.declared.place.Place.TheVariants as place
use Rattle.hq_log.specs.declared.place.Next.TheVariants as which
use Rattle.hq_log.specs.Places.{next_place, is_swept_by}
use Rattle.hq_log.specs.Pools.{pool, unborn_places}
use Rattle.hq_log.specs.Marks.{marks, marks_before}
use Rattle.hq_log.specs.Legal.{IsLawful, IsLegal}

abbrev by : ℕ → ℕ → EntryKind → Entry
by k m kind = record { session = k; statement = m; kind = kind }

-- a table is made and a row inserted
abbrev lent : List Entry
lent = by 1 1 Create ∷ by 1 2 Look ∷ by 1 2 (Lend 0 0) ∷ []

lent-place : slice_get (pool lent 0) 0 ≡ Some (place.Out 1)
lent-place = refl

lent-next : next_place (pool lent 0) ≡ which.Unborn 1
lent-next = refl

abbrev inserted : List Entry
inserted = lent ++ by 1 2 Commit ∷ []

inserted-place : slice_get (pool inserted 0) 0 ≡ Some place.Clean
inserted-place = refl

inserted-next : next_place (pool inserted 0) ≡ which.Clean 0
inserted-next = refl

inserted-other_table : pool inserted 1 ≡ unborn_places
inserted-other_table = refl

lent-none_swept : (t : ℕ) → list_any (is_swept_by 1) (pool lent t) ≡ false
lent-none_swept zero = refl
lent-none_swept (suc t) = simp eqb-suc-zero

inserted-legal : IsLegal 3 inserted
inserted-legal = (tt, (tt, ((refl, inr refl), (((0, refl), lent-none_swept), tt))))

-- an insert fails and leaves a tail; another session cuts it off and inserts
abbrev failed : List Entry
failed = by 2 1 (Lend 0 0) ∷ by 2 1 (Back 0 0 false) ∷ []

failed-next : next_place (pool failed 0) ≡ which.Dirty 0
failed-next = refl

abbrev adopted : List Entry
adopted = failed ++ by 3 1 (Sweep 0 0) ∷ by 3 1 (Adopt 0 0) ∷ []

adopted-place : slice_get (pool adopted 0) 0 ≡ Some (place.Out 3)
adopted-place = refl

adopted-legal : IsLegal 3 adopted
adopted-legal = ((refl, inr refl), (inl refl, (inl (refl, refl), (refl, tt))))

-- while a lane is being swept by session 3, session 4 gets the next one
swept-next : next_place (pool (failed ++ by 3 1 (Sweep 0 0) ∷ []) 0) ≡ which.Unborn 1
swept-next = refl

-- lane 1 before lane 0 is not lawful
wrong_lane : IsLawful 3 [] 1 (Lend 0 1) → ⊥
wrong_lane (none, inl e) = cc
wrong_lane (none, inr e) = cc

-- nor is a lane with a tail lent as if it had none
tail_lent : IsLawful 3 failed 3 (Lend 0 0) → ⊥
tail_lent (none, inl e) = cc
tail_lent (none, inr e) = cc

-- nor is a second lane of a table
second_lane : IsLawful 3 lent 1 (Lend 0 1) → ⊥
second_lane (none, next) = cc

abbrev marked : List Entry
marked = by 1 1 Look ∷ by 1 1 (Mark 1 false) ∷ by 2 1 (Mark 2 false) ∷ by 2 1 (Mark 1 true) ∷ []

marked-marks : marks 3 marked ≡ true ∷ true ∷ false ∷ []
marked-marks = refl

marked-before : marks_before 3 marked 2 ≡ true ∷ false ∷ true ∷ []
marked-before = refl

-- a restart finds each lane that was lent at home and without a tail, and each node up
abbrev restarted : List Entry
restarted = failed ++ by 3 1 (Lend 0 1) ∷ by 3 1 (Mark 1 false) ∷ by 0 0 Restart ∷ []

restarted-next : next_place (pool restarted 0) ≡ which.Clean 0
restarted-next = refl

restarted-out : slice_get (pool restarted 0) 1 ≡ Some place.Clean
restarted-out = refl

restarted-unborn : slice_get (pool restarted 0) 2 ≡ Some place.Unborn
restarted-unborn = refl

restarted-marks : marks 3 restarted ≡ true ∷ true ∷ true ∷ []
restarted-marks = refl

restart-by_session : IsLawful 3 failed 1 Restart → ⊥
restart-by_session k = cc

altered-places : pool (lent ++ by 2 1 Alter ∷ []) 0 ≡ pool lent 0
altered-places = refl
