-- The two ends of each stream.
use Rattle.std.proofs.Common.{◌≡◌, ℕ, zero, suc, ◌^◌, ◌<◌, List, [], ◌∷◌, ◌++◌, length, map, sym, ap, subst, ◌∙◌, append_assoc, arith}
use Rattle.std.specs.Prelude.{All, Vec, remove, slice_index_or}
use Rattle.hq_stream.specs.Piece.{eos}
use Rattle.hq_pump.specs.declared.lane.Lane.{Lane}
use Rattle.hq_pump.specs.Seen.{seen}
use Rattle.hq_pump.specs.Pumping.{new_lane, AreShort}

-- the first stream and the others
pub first_stream : {A : Type 0} (xs : List (ℕ × Vec ℕ A)) (x : ℕ × Vec ℕ A) (q m t : ℕ) → 0 < length xs → x ≡ slice_index_or xs 0 x → map (new_lane q m t) (seen xs) ≡ new_lane q m t (x.0, x.1.items) ∷ map (new_lane q m t) (seen (remove xs 0))
first_stream [] x q m t lt e = absurd (omega (arith, lt))
first_stream {A} (y ∷ ys) x q m t lt e = ap (λ (z : ℕ × Vec ℕ A). new_lane q m t (z.0, z.1.items) ∷ map (new_lane q m t) (seen ys)) (sym e)

pub others_all : {A : Type 0} (P : ℕ × Vec ℕ A → Type 0) (xs : List (ℕ × Vec ℕ A)) → All P xs → All P (remove xs 0)
others_all P [] all = all
others_all P (x ∷ xs) all = λ k d lt. all (suc k) d (omega (arith, lt))

pub one_made : (before now : List Lane) (lane : Lane) (all rest : List Lane) (old : List Lane) → all ≡ before ++ old → old ≡ lane ∷ rest → now ≡ before ++ lane ∷ [] → all ≡ now ++ rest
one_made before now lane all rest old e first is = e ∙ ap (λ l. before ++ l) first ∙ sym (append_assoc before (lane ∷ []) rest) ∙ ap (λ l. l ++ rest) (sym is)

-- one more short stream
pub short_more : (lanes : List Lane) (lane : Lane) → AreShort lanes → eos lane.sender.stream < 2 ^ 60 → AreShort (lanes ++ lane ∷ [])
short_more [] lane all lt zero z e = let same : lane ≡ z = cc in subst (λ (l : Lane). eos l.sender.stream < 2 ^ 60) same lt
short_more [] lane all lt (suc i) z e = absurd cc
short_more (x ∷ xs) lane all lt zero z e = all zero z e
short_more (x ∷ xs) lane all lt (suc i) z e = short_more xs lane (λ j y f. all (suc j) y f) lt i z e
