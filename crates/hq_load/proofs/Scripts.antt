-- The words of the rows, one after another, and texts with one part more.
use Rattle.std.proofs.Common.{◌≡◌, ◌∙◌, sym, ap, refl, arith, ℕ, zero, suc, ◌+◌, ◌-◌, ◌*◌, ◌<◌, min, List, [], ◌∷◌, ◌++◌, codes, append_assoc, append-nil}
use Rattle.std.specs.Int.{div_ceil}
use Rattle.std.specs.List.{range_with_len, flat_map}
use Rattle.std.proofs.lemmas.Grind.{flat_map-append}
use Rattle.std.proofs.lemmas.List.Concat.{flat_map-cons}
use Rattle.rand_pcg.specs.Lcg.{Lcg, next, next_state, state_after, started, increment_of}
use Rattle.rand_pcg.specs.Pcg.{multiplier_64, pcg32}
use Rattle.hq_load.specs.Scripts.{RowsLeft, draws_at, word, row_text, rows_text, group_text, groups_text}

-- one step more, taken last
state_after-more : (w m increment n state : ℕ)
    → state_after w m increment (suc n) state ≡ next_state w m increment (state_after w m increment n state)
unfolding state_after
state_after-more w m increment zero state = refl
state_after-more w m increment (suc n) state = state_after-more w m increment n (next_state w m increment state)

pub draws_at-none : (seed session : ℕ) → draws_at seed session 0 ≡ started 64 multiplier_64 seed (increment_of 64 session)
unfolding draws_at state_after
draws_at-none seed session = refl

pub draws_at-more : (seed session i : ℕ) → draws_at seed session (i + 1) ≡ next 64 multiplier_64 (draws_at seed session i)
unfolding draws_at
draws_at-more seed session i =
    let first = started 64 multiplier_64 seed (increment_of 64 session) in
    let counted : i + 1 ≡ suc i = omega arith in
    rw counted (ap (λ s. let g : Lcg = record { state = s; increment = first.increment } in g)
    (state_after-more 64 multiplier_64 first.increment i first.state))

range-more : (a n : ℕ) → range_with_len a (suc n) ≡ range_with_len a n ++ (a + n) ∷ []
range-more a zero = let e : a + 0 ≡ a = omega arith in rw e refl
range-more a (suc n) =
    let e : a + suc n ≡ a + 1 + n = omega arith in
    rw e (ap (λ xs. a ∷ xs) (range-more (a + 1) n))

-- a part more at the end
flat_map-range : (f : ℕ → List ℕ) (a n : ℕ)
    → flat_map f (range_with_len a (suc n)) ≡ flat_map f (range_with_len a n) ++ f (a + n)
flat_map-range f a n =
    ap (flat_map f) (range-more a n) ∙ flat_map-append f (range_with_len a n) ((a + n) ∷ [])
    ∙ ap (λ xs. flat_map f (range_with_len a n) ++ xs) (flat_map-cons f (a + n) [] ∙ append-nil (f (a + n)))

pub rows_text-one : (seed session from : ℕ) → rows_text seed session from 1 ≡ row_text seed session from
unfolding rows_text
rows_text-one seed session from = append-nil (row_text seed session from)

pub rows_text-more : (seed session from count : ℕ) → 0 < count
    → rows_text seed session from (count + 1) ≡ rows_text seed session from count ++ 44 ∷ row_text seed session (from + count)
unfolding rows_text
rows_text-more seed session from zero some = absurd (omega arith)
rows_text-more seed session from (suc n) some =
    let counted : suc n + 1 ≡ suc (suc n) = omega arith in
    let place : from + suc n ≡ from + 1 + n = omega arith in
    let row : ℕ → List ℕ = row_text seed session in
    let rest : ℕ → List ℕ = λ y. 44 ∷ row y in
    rw counted
    (rw place
    (ap (λ xs. row from ++ xs) (flat_map-range rest (from + 1) n)
    ∙ sym (append_assoc (row from) (flat_map rest (range_with_len (from + 1) n)) (rest (from + 1 + n)))))

pub groups_text-more : (seed session rows count : ℕ)
    → groups_text seed session rows (count + 1) ≡ groups_text seed session rows count ++ group_text seed session rows count
groups_text-more seed session rows count =
    let counted : count + 1 ≡ suc count = omega arith in
    let group : ℕ → List ℕ = group_text seed session rows in
    let place : 0 + count ≡ count = omega arith in
    rw counted (flat_map-range group 0 count ∙ ap (λ j. flat_map group (range_with_len 0 count) ++ group j) place)

-- a draw gives the next row's word, and leaves the generator before the row after it
pub draw-gives : (drawn : ℕ) (now draws : Lcg) (seed session i : ℕ) → (drawn, now) ≡ pcg32 draws → draws ≡ draws_at seed session i
    → drawn ≡ word seed session i
unfolding word
draw-gives drawn now draws seed session i drew at =
    let first : ℕ × Lcg → ℕ = λ p. p.0 in
    ap first drew ∙ ap (λ g. first (pcg32 g)) at

pub draw-moves : (drawn : ℕ) (now draws : Lcg) (seed session i : ℕ) → (drawn, now) ≡ pcg32 draws → draws ≡ draws_at seed session i
    → now ≡ draws_at seed session (i + 1)
draw-moves drawn now draws seed session i drew at =
    let second : ℕ × Lcg → Lcg = λ p. p.1 in
    ap second drew ∙ ap (next 64 multiplier_64) at ∙ sym (draws_at-more seed session i)

-- one row more is taken
pub taken-more : (old before after : RowsLeft) (k : ℕ) → before ≡ record old { next = old.next + k }
    → after ≡ record before { next = before.next + 1 } → after ≡ record old { next = old.next + (k + 1) }
taken-more old before after k e f =
    let take_one : RowsLeft → RowsLeft = λ r. record r { next = r.next + 1 } in
    let place : ℕ → RowsLeft = λ n. record old { next = n } in
    let sums : old.next + k + 1 ≡ old.next + (k + 1) = omega arith in
    f ∙ ap take_one e ∙ ap place sums

-- a comma and a row more are written
pub text-more : (old list row longer script pushed made : List ℕ) → script ≡ old ++ list → pushed ≡ script ++ 44 ∷ []
    → made ≡ pushed ++ row → longer ≡ list ++ 44 ∷ row → made ≡ old ++ longer
text-more old list row longer script pushed made e f g h = rw g (rw f (rw e (rw h (simp append_assoc))))

-- a transaction more is written
pub group-text : (old rows ending begun listed ended made : List ℕ) → begun ≡ old ++ codes "BEGIN;INSERT INTO load VALUES "
    → listed ≡ begun ++ rows → ended ≡ listed ++ codes ";" → made ≡ ended ++ ending
    → made ≡ old ++ (codes "BEGIN;INSERT INTO load VALUES " ++ rows ++ codes ";" ++ ending)
group-text old rows ending begun listed ended made e f g h = rw h (rw g (rw f (rw e (simp append_assoc))))

pub groups-more : (old done group longer script made : List ℕ) → script ≡ old ++ done → made ≡ script ++ group
    → longer ≡ done ++ group → made ≡ old ++ longer
groups-more old done group longer script made e f g = rw f (rw e (rw g (simp append_assoc)))

-- the rows of a transaction more are taken
pub group-taken : (rows j : ℕ) → 100 * j < rows → 100 * j + min 100 (rows - 100 * j) ≡ min rows (100 * (j + 1))
group-taken rows j left = omega arith

pub group-left : (rows count j : ℕ) → count ≡ div_ceil rows 100 → j < count → 100 * j < rows
group-left rows count j counted below = omega arith
