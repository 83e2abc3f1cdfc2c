-- Texts and comments as they are written.
use Rattle.std.proofs.Common.{◌≡◌, ◌==◌, ◌&&◌, ℕ, Bool, true, false, not, cond, List, [], ◌∷◌, ◌++◌, flat_map, if◌then◌else◌, refl, subst, IsTrue}
use Rattle.hq_io.specs.Pieces.{texts, lead, quoted, commented, is_one_line, is_blank, is_blank_from}
use Rattle.hq_io.specs.Scanning.{Passes, after}
use Rattle.hq_io.specs.declared.place.Place.TheVariants as places
use Rattle.hq_io.specs.declared.scan.Spot.TheVariants as spots
use Rattle.hq_io.proofs.Scanning.{Passes-none, Passes-then, Passes-byte, one-text, one-comment}

abbrev doubled : ℕ → List ℕ
doubled b = if b == 39 then 39 ∷ 39 ∷ [] else b ∷ []

-- a quote outside begins a text, and one in a text ends it
opens : Passes spots.Outside (39 ∷ []) spots.Text
opens = λ more. refl

closes : Passes spots.Text (39 ∷ []) spots.Outside
closes = λ more. refl

two-quotes : Passes spots.Text (39 ∷ 39 ∷ []) spots.Text
two-quotes = λ more. refl

other-stays : (b : ℕ) → (b == 39) ≡ false → Passes spots.Text (b ∷ []) spots.Text
other-stays b other = let same : after spots.Text b ≡ spots.Text = rw other refl in subst (Passes spots.Text (b ∷ [])) same (one-text b)

-- one byte of a text, its quote doubled
doubled-is : (quote : Bool) (b : ℕ) → (b == 39) ≡ quote → Passes spots.Text (cond quote (39 ∷ 39 ∷ []) (b ∷ [])) spots.Text
doubled-is true b e = two-quotes
doubled-is false b e = other-stays b e

doubled-stays : (b : ℕ) → Passes spots.Text (doubled b) spots.Text
doubled-stays b = doubled-is (b == 39) b refl

text-stays : (text : List ℕ) → Passes spots.Text (flat_map doubled text) spots.Text
text-stays [] = Passes-none spots.Text
text-stays (b ∷ bs) = Passes-then spots.Text spots.Text spots.Text (doubled b) (flat_map doubled bs) (doubled-stays b) (text-stays bs)

pub texts-quoted : (text rest : List ℕ) → texts (quoted text ++ rest) ≡ lead (quoted text) (texts rest)
texts-quoted text rest =
    let inside : Passes spots.Text (flat_map doubled text ++ 39 ∷ []) spots.Outside = Passes-then spots.Text spots.Text spots.Outside (flat_map doubled text) (39 ∷ []) (text-stays text) closes in
    let whole : Passes spots.Outside (quoted text) spots.Outside = Passes-then spots.Outside spots.Text spots.Outside (39 ∷ []) (flat_map doubled text ++ 39 ∷ []) opens inside in
    whole rest

and-parts : (a b : Bool) → IsTrue (a && b) → IsTrue a × IsTrue b
and-parts true true h = (refl, refl)
and-parts true false h = absurd (cc)
and-parts false b h = absurd (cc)

no-feed : (b : ℕ) → IsTrue (not (b == 10)) → (b == 10) ≡ false
no-feed b h = by (b == 10) h
  where
    by : (v : Bool) → IsTrue (not v) → v ≡ false
    by true h = absurd (cc)
    by false h = refl

comment-stays : (text : List ℕ) → IsTrue (is_one_line text) → Passes spots.Comment text spots.Comment
comment-stays [] line = Passes-none spots.Comment
comment-stays (b ∷ bs) line =
    let parts = and-parts (not (b == 10)) (is_one_line bs) line in
    let same : after spots.Comment b ≡ spots.Comment = rw (no-feed b parts.0) refl in
    Passes-then spots.Comment spots.Comment spots.Comment (b ∷ []) bs (subst (Passes spots.Comment (b ∷ [])) same (one-comment b)) (comment-stays bs parts.1)

pub texts-commented : (text rest : List ℕ) → IsTrue (is_one_line text) → texts (commented text ++ rest) ≡ lead (commented text) (texts rest)
texts-commented text rest line =
    Passes-then spots.Outside spots.Dash spots.Outside (45 ∷ []) (45 ∷ (text ++ 10 ∷ [])) (Passes-byte spots.Outside 45 (λ same. absurd (cc)))
    (Passes-then spots.Dash spots.Comment spots.Outside (45 ∷ []) (text ++ 10 ∷ []) (Passes-byte spots.Dash 45 (λ same. absurd (cc)))
    (Passes-then spots.Comment spots.Comment spots.Outside text (10 ∷ []) (comment-stays text line) (one-comment 10))) rest

blank-comment : (text rest : List ℕ) → IsTrue (is_one_line text) → is_blank_from places.Comment ((text ++ 10 ∷ []) ++ rest) ≡ is_blank rest
blank-comment [] rest line = refl
blank-comment (b ∷ bs) rest line =
    let parts = and-parts (not (b == 10)) (is_one_line bs) line in
    rw (no-feed b parts.0) (blank-comment bs rest parts.1)

pub blank-commented : (text rest : List ℕ) → IsTrue (is_one_line text) → is_blank (commented text ++ rest) ≡ is_blank rest
blank-commented text rest line = blank-comment text rest line
