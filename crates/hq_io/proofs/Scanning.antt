-- Bytes that end no piece, and the `;` that ends one.
use Rattle.std.proofs.Common.{◌≡◌, ◌≢◌, ◌==◌, ◌+◌, ◌<◌, ◌≤◌, ◌&&◌, ℕ, zero, suc, Bool, true, false, cond, List, [], ◌∷◌, ◌++◌, length, take, drop, get_or, None, Some, refl, ap, sym, subst, ◌∙◌, append_assoc, append-nil, arith, take-append-drop}
use Rattle.std.specs.declared.option.Option.{Option}
use Rattle.std.proofs.lemmas.Bool.Decides.{nat_tests}
use Rattle.std.proofs.lemmas.List.{take_all, take_more, drop_more, take-take, get_or-take, get_or-drop, length-take, length-drop, drop_min}
use Rattle.memchr.specs.Find.{IsFirstByte, is_byte, is_byte3}
use Rattle.hq_io.specs.Pieces.{begins, behind, lead, onto_first, texts, texts_from}
use Rattle.hq_io.specs.Scanning.{resume, is_outside, after, Passes, CutAt, Stays}
use Rattle.hq_io.specs.declared.place.Place.TheVariants as places
use Rattle.hq_io.specs.declared.scan.Spot.{Spot}
use Rattle.hq_io.specs.declared.scan.Spot.TheVariants as spots

pub lead-first : (bs first : List ℕ) (more : List (List ℕ)) → lead bs (first ∷ more) ≡ (bs ++ first) ∷ more
lead-first [] first more = refl
lead-first (b ∷ bs) first more = ap (onto_first b) (lead-first bs first more)

lead-append : (xs ys : List ℕ) (ts : List (List ℕ)) → lead (xs ++ ys) ts ≡ lead xs (lead ys ts)
lead-append [] ys ts = refl
lead-append (x ∷ xs) ys ts = ap (onto_first x) (lead-append xs ys ts)

pub Passes-none : (spot : Spot) → Passes spot [] spot
Passes-none spot = λ more. refl

pub Passes-then : (from mid to : Spot) (xs ys : List ℕ) → Passes from xs mid → Passes mid ys to → Passes from (xs ++ ys) to
Passes-then from mid to xs ys p q = λ more.
    ap (λ bs. texts_from (resume from bs) bs) (append_assoc xs ys more) ∙ p (ys ++ more) ∙ ap (lead xs) (q more) ∙ sym (lead-append xs ys (texts_from (resume to more) more))

-- outside a byte leads where it does by the tests for a quote and a dash
outside-is : (quote dash : Bool) (more : List ℕ) → cond quote places.Text (cond (dash && begins 45 more) places.Comment places.Outside) ≡ resume (cond quote spots.Text (cond dash spots.Dash spots.Outside)) more
outside-is true dash more = refl
outside-is false true more = refl
outside-is false false more = refl

-- a byte that is no dash behind a dash
dash-is : (quote : Bool) (more : List ℕ) → cond quote places.Text places.Outside ≡ resume (cond quote spots.Text spots.Outside) more
dash-is true more = refl
dash-is false more = refl

text-is : (quote : Bool) (more : List ℕ) → cond quote places.Outside places.Text ≡ resume (cond quote spots.Outside spots.Text) more
text-is true more = refl
text-is false more = refl

comment-is : (feed : Bool) (more : List ℕ) → cond feed places.Outside places.Comment ≡ resume (cond feed spots.Outside spots.Comment) more
comment-is true more = refl
comment-is false more = refl

not-byte : (b c : ℕ) → b ≢ c → (b == c) ≡ false
not-byte b c n = grind (arith, nat_tests)

-- a byte that ends no piece, by where it stands
one-outside : (b : ℕ) → b ≢ 59 → Passes spots.Outside (b ∷ []) (after spots.Outside b)
one-outside b n = λ more. rw (not-byte b 59 n) (ap (λ at. onto_first b (texts_from at more)) (outside-is (b == 39) (b == 45) more))

one-dash : (b : ℕ) → b ≢ 59 → Passes spots.Dash (b ∷ []) (after spots.Dash b)
one-dash b n = λ more. by (b == 45) refl more
  where
    by : (dash : Bool) → (b == 45) ≡ dash → (more : List ℕ) → texts_from (cond (b == 45) places.Comment places.Outside) (b ∷ more) ≡ onto_first b (texts_from (resume (after spots.Dash b) more) more)
    by true e more =
        let is : b ≡ 45 = grind (arith, nat_tests) in
        rw is refl
    by false e more =
        let here : texts_from places.Outside (b ∷ more) ≡ onto_first b (texts_from (behind places.Outside b more) more) = rw (not-byte b 59 n) refl in
        let next : behind places.Outside b more ≡ cond (b == 39) places.Text places.Outside = ap (λ d. cond (b == 39) places.Text (cond (d && begins 45 more) places.Comment places.Outside)) e in
        let to : resume (cond (b == 39) spots.Text spots.Outside) more ≡ resume (after spots.Dash b) more = ap (λ d. resume (cond (b == 39) spots.Text (cond d spots.Comment spots.Outside)) more) (sym e) in
        ap (λ d. texts_from (cond d places.Comment places.Outside) (b ∷ more)) e ∙ here ∙ ap (λ at. onto_first b (texts_from at more)) (next ∙ dash-is (b == 39) more ∙ to)

pub one-text : (b : ℕ) → Passes spots.Text (b ∷ []) (after spots.Text b)
one-text b = λ more. ap (λ at. onto_first b (texts_from at more)) (text-is (b == 39) more)

pub one-comment : (b : ℕ) → Passes spots.Comment (b ∷ []) (after spots.Comment b)
one-comment b = λ more. ap (λ at. onto_first b (texts_from at more)) (comment-is (b == 10) more)

pub Passes-byte : (spot : Spot) (b : ℕ) → (b ≡ 59 → is_outside spot ≡ false) → Passes spot (b ∷ []) (after spot b)
Passes-byte spots.Outside b n = one-outside b (λ e. absurd (let no : is_outside spots.Outside ≡ false = n e in cc))
Passes-byte spots.Dash b n = one-dash b (λ e. absurd (let no : is_outside spots.Dash ≡ false = n e in cc))
Passes-byte spots.Text b n = one-text b
Passes-byte spots.Comment b n = one-comment b

-- bytes each of which leaves the spot as it is
stays-up-to : (spot : Spot) (test : ℕ → Bool) → ((b : ℕ) → test b ≡ false → Passes spot (b ∷ []) spot) → (xs : List ℕ) (at : ℕ) → at ≤ length xs → ((k : ℕ) → k < at → test (get_or xs k 0) ≡ true → ⊥) → Passes spot (take at xs) spot
stays-up-to spot test one xs zero fits none = Passes-none spot
stays-up-to spot test one [] (suc at) fits none = Passes-none spot
stays-up-to spot test one (x ∷ xs) (suc at) fits none =
    Passes-then spot spot spot (x ∷ []) (take at xs) (one x (is-false (test x) (none 0 (omega arith)))) (stays-up-to spot test one xs at (omega (arith, fits)) (λ k below. none (suc k) (omega (arith, below))))
  where
    is-false : (v : Bool) → (v ≡ true → ⊥) → v ≡ false
    is-false true n = absurd (n refl)
    is-false false n = refl

stays : (spot : Spot) (test : ℕ → Bool) → ((b : ℕ) → test b ≡ false → Passes spot (b ∷ []) spot) → (bytes : List ℕ) (found : Option ℕ) → IsFirstByte test bytes found → Stays spot bytes found
stays spot test one bytes None none = subst (λ bs. Passes spot bs spot) (take_all (length bytes) bytes (omega arith)) (stays-up-to spot test one bytes (length bytes) (omega arith) (λ k below. none k (omega arith) below))
stays spot test one bytes (Some at) found = (found.0.high, stays-up-to spot test one bytes at (omega (arith, found.0.high)) (λ k below. found.0.before k (omega arith) below))

pub stays-outside : (bytes : List ℕ) (found : Option ℕ) → IsFirstByte (is_byte3 59 39 45) bytes found → Stays spots.Outside bytes found
stays-outside bytes found f = stays spots.Outside (is_byte3 59 39 45) one bytes found f
  where
    one : (b : ℕ) → is_byte3 59 39 45 b ≡ false → Passes spots.Outside (b ∷ []) spots.Outside
    one b none =
        let end : b ≢ 59 = grind (arith, nat_tests) in
        let quote : (b == 39) ≡ false = grind (arith, nat_tests) in
        let dash : (b == 45) ≡ false = grind (arith, nat_tests) in
        let same : after spots.Outside b ≡ spots.Outside = rw (quote, dash) refl in
        subst (Passes spots.Outside (b ∷ [])) same (one-outside b end)

pub stays-text : (bytes : List ℕ) (found : Option ℕ) → IsFirstByte (is_byte 39) bytes found → Stays spots.Text bytes found
stays-text bytes found f = stays spots.Text (is_byte 39) one bytes found f
  where
    one : (b : ℕ) → is_byte 39 b ≡ false → Passes spots.Text (b ∷ []) spots.Text
    one b none = let same : after spots.Text b ≡ spots.Text = rw none refl in subst (Passes spots.Text (b ∷ [])) same (one-text b)

pub stays-comment : (bytes : List ℕ) (found : Option ℕ) → IsFirstByte (is_byte 10) bytes found → Stays spots.Comment bytes found
stays-comment bytes found f = stays spots.Comment (is_byte 10) one bytes found f
  where
    one : (b : ℕ) → is_byte 10 b ≡ false → Passes spots.Comment (b ∷ []) spots.Comment
    one b none = let same : after spots.Comment b ≡ spots.Comment = rw none refl in subst (Passes spots.Comment (b ∷ [])) same (one-comment b)

pub stays-dash : (bytes : List ℕ) → 0 < length bytes → Stays spots.Dash bytes (Some 0)
stays-dash bytes some = (some, Passes-none spots.Dash)

-- one byte behind those that leave the spot as it is
pub Passes-past : (spot : Spot) (bytes : List ℕ) (at : ℕ) → at < length bytes → Passes spot (take at bytes) spot → (get_or bytes at 0 ≡ 59 → is_outside spot ≡ false) → Passes spot (take (at + 1) bytes) (after spot (get_or bytes at 0))
Passes-past spot bytes at fits p n = subst (λ bs. Passes spot bs (after spot (get_or bytes at 0))) (sym (take_more bytes at 0 fits)) (Passes-then spot spot (after spot (get_or bytes at 0)) (take at bytes) (get_or bytes at 0 ∷ []) p (Passes-byte spot (get_or bytes at 0) n))

pub CutAt-found : (spot : Spot) (bytes : List ℕ) (at : ℕ) → at < length bytes → Passes spot (take at bytes) spot → get_or bytes at 0 ≡ 59 → is_outside spot ≡ true → CutAt spot bytes at
CutAt-found spot bytes at fits p is out = record { within = fits; is = is; to = spot; passes = p; outside = out }

take-both : (xs : List ℕ) (at count : ℕ) → at ≤ length xs → take (at + count) xs ≡ take at xs ++ take count (drop at xs)
take-both xs zero count fits = ap (λ n. take n xs) (omega arith)
take-both [] (suc at) count fits = absurd (omega (arith, fits))
take-both (x ∷ xs) (suc at) count fits =
    let more : suc at + count ≡ suc (at + count) = omega arith in
    ap (λ n. take n (x ∷ xs)) more ∙ ap (λ bs. x ∷ bs) (take-both xs at count (omega (arith, fits)))

-- a scan goes on behind what it has passed
pub Passes-on : (from spot to : Spot) (bytes : List ℕ) (at count : ℕ) → at ≤ length bytes → Passes from (take at bytes) spot → Passes spot (take count (drop at bytes)) to → Passes from (take (at + count) bytes) to
Passes-on from spot to bytes at count fits p q = subst (λ bs. Passes from bs to) (sym (take-both bytes at count fits)) (Passes-then from spot to (take at bytes) (take count (drop at bytes)) p q)

pub CutAt-on : (from spot : Spot) (bytes : List ℕ) (at count : ℕ) → at ≤ length bytes → Passes from (take at bytes) spot → CutAt spot (drop at bytes) count → CutAt from bytes (at + count)
CutAt-on from spot bytes at count fits p c = record {
  within = omega (arith, c.within, length-drop at bytes, fits);
  is = sym (get_or-drop at bytes count 0) ∙ c.is;
  to = c.to;
  passes = Passes-on from spot c.to bytes at count fits p c.passes;
  outside = c.outside;
}

-- what a `;` among the first bytes cuts off
pub cut-held : (from : Spot) (held : List ℕ) (most at : ℕ) → CutAt from (take most held) at → held ≡ take at (take most held) ++ 59 ∷ drop (at + 1) held
cut-held from held most at c =
    let below : at < most = omega (arith, c.within, length-take most held) in
    let within : at < length held = omega (arith, c.within, length-take most held) in
    let byte : get_or held at 0 ≡ 59 = sym (get_or-take most held at 0 below) ∙ c.is in
    sym (take-append-drop at held) ∙ ap (λ r. take at held ++ r) (drop_more held at 0 within ∙ ap (λ b. b ∷ drop (at + 1) held) byte) ∙ ap (λ t. t ++ 59 ∷ drop (at + 1) held) (sym (take-take at most held (omega (arith, below))))

-- what is left behind the first bytes
pub held-through : (held chunk after : List ℕ) (most : ℕ) → held ≡ chunk → after ≡ drop (length (take most held)) chunk → chunk ≡ take most held ++ after
held-through held chunk after most same is = sym same ∙ sym (take-append-drop most held) ∙ ap (λ r. take most held ++ r) (by ∙ ap (drop (length (take most held))) same ∙ sym is)
  where
    by : drop most held ≡ drop (length (take most held)) held
    by = sym (drop_min most held) ∙ ap (λ n. drop n held) (sym (length-take most held))

-- the first text of bytes that end no piece before a `;`
pub texts-cut : (seen rest : List ℕ) (to : Spot) → Passes spots.Outside seen to → is_outside to ≡ true → texts (seen ++ 59 ∷ rest) ≡ seen ∷ texts rest
texts-cut seen rest to p out = p (59 ∷ rest) ∙ ap (lead seen) (by to out) ∙ lead-first seen [] (texts rest) ∙ ap (λ s. s ∷ texts rest) (append-nil seen)
  where
    by : (to : Spot) → is_outside to ≡ true → texts_from (resume to (59 ∷ rest)) (59 ∷ rest) ≡ [] ∷ texts rest
    by spots.Outside out = refl
    by spots.Dash out = refl
    by spots.Text out = absurd (cc)
    by spots.Comment out = absurd (cc)

pub texts-rest : (seen : List ℕ) (to : Spot) → Passes spots.Outside seen to → texts seen ≡ seen ∷ []
texts-rest seen to p = ap texts (sym (append-nil seen)) ∙ p [] ∙ lead-first seen [] [] ∙ ap (λ s. s ∷ []) (append-nil seen)

-- a test that failed, and one that did not
pub ends-not : (b : ℕ) (out : Bool) → (b == 59 && out) ≡ false → b ≡ 59 → out ≡ false
ends-not b false failed is = refl
ends-not b true failed is = absurd (let good : (b == 59) ≡ true = grind (arith, nat_tests) in let same : (b == 59 && true) ≡ true = rw good refl in cc)

pub ends-byte : (b : ℕ) (out : Bool) → (b == 59 && out) ≡ true → (b ≡ 59) × (out ≡ true)
ends-byte b out good = by (b == 59) refl good
  where
    by : (is : Bool) → (b == 59) ≡ is → (is && out) ≡ true → (b ≡ 59) × (out ≡ true)
    by true e both = (grind (arith, nat_tests), both)
    by false e both = absurd (cc)
