-- The fields of a plan: what is read was written, and what is written is read again.
use Rattle.std.proofs.Common.{◌≡◌, ◌⊎◌, ℕ, zero, suc, ◌+◌, ◌^◌, ◌<◌, ◌≤◌, Bool, true, false, cond, ltb, nat_eq, List, [], ◌∷◌, ◌++◌, length, take, drop, Option, Some, None, refl, sym, ap, subst, ◌∙◌, append_assoc, arith}
use Rattle.std.specs.Prelude.{◌||◌, FitsSigned, IsUtf8}
use Rattle.std.specs.Int.{w16, w64, to_be_bytes, cast_unsigned, cast_signed}
use Rattle.std.specs.Str.{is_utf8}
use Rattle.std.proofs.lemmas.Bool.{ltb-false, le-ltb}
use Rattle.std.proofs.lemmas.Int.{of_z-to_z, to_z-of_z}
use Rattle.std.proofs.lemmas.List.{take_at, drop_at, take-append-drop, length-append, length-take}
use Rattle.std.proofs.lemmas.Str.{IsUtf8-from_is_utf8, is_utf8-from_IsUtf8}
use mir.Facts.{sfits_to_z, Fits-of_z}
use Rattle.hq_value.specs.declared.value.Value.{Value}
use Rattle.hq_value.specs.declared.value.Value.TheVariants as value
use Rattle.hq_value.specs.declared.kind.Kind.{Kind}
use Rattle.hq_value.specs.declared.kind.Kind.TheVariants as kind
use Rattle.hq_value.specs.declared.operator.ArithKind.{ArithKind}
use Rattle.hq_value.specs.declared.operator.ArithKind.TheVariants as step
use Rattle.hq_value.specs.declared.operator.CompareKind.{CompareKind}
use Rattle.hq_value.specs.declared.operator.CompareKind.TheVariants as test
use Rattle.hq_planwire.specs.Bytes.{short, bool_byte, kind_byte, arith_byte, compare_byte, literal_bytes, limit_bytes}
use Rattle.hq_planwire.specs.Ranges.{IsShort, Always, ValueHasRoom, LimitHasRoom}
use Rattle.hq_planwire.specs.Reading.{◌>>=◌, made_at, byte_at, number_at, coded_at, bool_of, kind_of, arith_of, compare_of, text_at, literal_of, literal_at, limit_of, limit_at}
use Rattle.hq_planwire.proofs.Numbers.{IsBytes, IsBytes-drop, bind_some, guard_none, guard_some, some_is, wide16, wide64, number_taken, number_again}
use Rattle.hq_planwire.proofs.Codecs.{Took, Takes, Again, made_takes, number_takes, coded_takes, one_code, one_tag, bare_takes, tag_takes, made_again}

none_code : {A : Type 0} (put : A → List ℕ) (b : ℕ) (x : A) → None ≡ Some x → put x ≡ b ∷ []
none_code put b x h = absurd cc

pub none_tag : {A : Type 0} (ok : A → Type 0) (put : A → List ℕ) (bytes : List ℕ) (x : A × List ℕ) (b : ℕ) → None ≡ Some x → Took ok put (b ∷ bytes) x.0 x.1
none_tag ok put bytes x b h = absurd cc

pub bool_takes : Takes Always bool_byte (coded_at bool_of)
bool_takes = coded_takes bool_of bool_byte (λ b x.
    one_code bool_byte b 0 false x _ refl (
    one_code bool_byte b 1 true x _ refl (none_code bool_byte b x)))

pub bool_again : (x : Bool) → Again (coded_at bool_of) (bool_byte x) x
unfolding byte_at
bool_again false rest = refl
bool_again true rest = refl

pub kind_takes : Takes Always kind_byte (coded_at kind_of)
kind_takes = coded_takes kind_of kind_byte (λ b x.
    one_code kind_byte b 1 kind.Bool x _ refl (
    one_code kind_byte b 2 kind.Int x _ refl (
    one_code kind_byte b 3 kind.Text x _ refl (none_code kind_byte b x))))

pub kind_again : (x : Kind) → Always x → Again (coded_at kind_of) (kind_byte x) x
unfolding byte_at
kind_again kind.Bool _ rest = refl
kind_again kind.Int _ rest = refl
kind_again kind.Text _ rest = refl

pub arith_takes : Takes Always arith_byte (coded_at arith_of)
arith_takes = coded_takes arith_of arith_byte (λ b x.
    one_code arith_byte b 1 step.Plus x _ refl (
    one_code arith_byte b 2 step.Minus x _ refl (
    one_code arith_byte b 3 step.Times x _ refl (none_code arith_byte b x))))

pub arith_again : (x : ArithKind) → Again (coded_at arith_of) (arith_byte x) x
unfolding byte_at
arith_again step.Plus rest = refl
arith_again step.Minus rest = refl
arith_again step.Times rest = refl

pub compare_takes : Takes Always compare_byte (coded_at compare_of)
compare_takes = coded_takes compare_of compare_byte (λ b x.
    one_code compare_byte b 1 test.Equal x _ refl (
    one_code compare_byte b 2 test.NotEqual x _ refl (
    one_code compare_byte b 3 test.Less x _ refl (
    one_code compare_byte b 4 test.AtMost x _ refl (
    one_code compare_byte b 5 test.Greater x _ refl (
    one_code compare_byte b 6 test.AtLeast x _ refl (none_code compare_byte b x)))))))

pub compare_again : (x : CompareKind) → Again (coded_at compare_of) (compare_byte x) x
unfolding byte_at
compare_again test.Equal rest = refl
compare_again test.NotEqual rest = refl
compare_again test.Less rest = refl
compare_again test.AtMost rest = refl
compare_again test.Greater rest = refl
compare_again test.AtLeast rest = refl

pub short_takes : Takes IsShort short (number_at w16)
short_takes = number_takes w16 (2 ^ 16) wide16

pub short_again : (n : ℕ) → IsShort n → Again (number_at w16) (short n) n
short_again n below rest = number_again w16 (2 ^ 16) wide16 n rest below

-- ---- texts

abbrev pub IsText : List ℕ → Type 0
IsText text = (length text ≤ 1000) × IsUtf8 text

abbrev pub text_bytes : List ℕ → List ℕ
text_bytes text = short (length text) ++ text

neither : (a b : Bool) → (a || b) ≡ false → (a ≡ false) × (b ≡ false)
neither true b e = absurd cc
neither false b e = (refl, e)

text_takes : Takes IsText text_bytes text_at
unfolding text_at
text_takes bytes x fits e =
    let b = bind_some (number_at w16 bytes) (λ n. cond (ltb 1000 n.0 || ltb (length n.1) n.0) None (cond (is_utf8 (take n.0 n.1)) (Some (take n.0 n.1, drop n.0 n.1)) None)) x e in
    let n = b.0.0 in
    let rest = b.0.1 in
    let t = number_taken w16 (2 ^ 16) wide16 bytes n rest fits b.1 in
    let sized = guard_none (ltb 1000 n || ltb (length rest) n) (cond (is_utf8 (take n rest)) (Some (take n rest, drop n rest)) None) x b.2 in
    let valid = guard_some (is_utf8 (take n rest)) (Some (take n rest, drop n rest)) x sized.1 in
    let parts = neither (ltb 1000 n) (ltb (length rest) n) sized.0 in
    let short_n : n ≤ 1000 = ltb-false _ _ parts.0 in
    let long : n ≤ length rest = ltb-false _ _ parts.1 in
    let len : length (take n rest) ≡ n = omega (arith, length-take n rest) in
    let whole : bytes ≡ (short n ++ take n rest) ++ drop n rest =
    t.parts ∙ ap (λ (l : List ℕ). short n ++ l) (sym (take-append-drop n rest)) ∙ sym (append_assoc (short n) (take n rest) (drop n rest)) in
    subst (λ (y : List ℕ × List ℕ). Took IsText text_bytes bytes y.0 y.1) (some_is (take n rest, drop n rest) x valid.1) (record {
      parts = subst (λ (k : ℕ). bytes ≡ (short k ++ take n rest) ++ drop n rest) (sym len) whole;
      rest_fits = IsBytes-drop n rest t.rest_fits;
      fits = (omega arith, IsUtf8-from_is_utf8 (take n rest) valid.0);
    })

text_again : (text : List ℕ) → IsText text → Again text_at (text_bytes text) text
unfolding text_at
text_again text is rest =
    let small : ltb 1000 (length text) ≡ false = le-ltb _ _ is.0 in
    let long : ltb (length (text ++ rest)) (length text) ≡ false = le-ltb _ _ (omega (arith, length-append text rest)) in
    let below : length text < 2 ^ 16 = omega (arith, is.0) in
    ap text_at (append_assoc (short (length text)) text rest)
    ∙ rw (number_again w16 (2 ^ 16) wide16 (length text) (text ++ rest) below, small, long, take_at text rest (length text) refl, is_utf8-from_IsUtf8 text is.1, drop_at text rest (length text) refl) refl

-- ---- literals

abbrev pub int_bytes : ℕ → List ℕ
int_bytes n = to_be_bytes w64 n

signed_bytes : (n : ℕ) → n < 2 ^ 64 → literal_bytes (value.Int (cast_signed w64 n)) ≡ 2 ∷ int_bytes n
signed_bytes n below = ap (λ (k : ℕ). 2 ∷ to_be_bytes w64 k) (of_z-to_z w64 n below)

-- an Int that is read
int_takes : (bytes : List ℕ) (x : Value × List ℕ) → IsBytes bytes → made_at (λ n. value.Int (cast_signed w64 n)) (number_at w64) bytes ≡ Some x → Took ValueHasRoom literal_bytes (2 ∷ bytes) x.0 x.1
int_takes bytes x fits e =
    let p = bind_some (number_at w64 bytes) (λ n. Some (value.Int (cast_signed w64 n.0), n.1)) x e in
    let t = number_taken w64 (2 ^ 64) wide64 bytes p.0.0 p.0.1 fits p.1 in
    subst (λ (y : Value × List ℕ). Took ValueHasRoom literal_bytes (2 ∷ bytes) y.0 y.1) (some_is (value.Int (cast_signed w64 p.0.0), p.0.1) x p.2) (record {
      parts = ap (λ (l : List ℕ). 2 ∷ l) t.parts ∙ ap (λ (l : List ℕ). l ++ p.0.1) (sym (signed_bytes p.0.0 t.below));
      rest_fits = t.rest_fits;
      fits = sfits_to_z {w = w64} (record { fits = t.below });
    })

literal_of_takes : (b : ℕ) (bytes : List ℕ) (x : Value × List ℕ) → IsBytes bytes → literal_of b bytes ≡ Some x → Took ValueHasRoom literal_bytes (b ∷ bytes) x.0 x.1
literal_of_takes b bytes x fits =
    one_tag ValueHasRoom literal_bytes bytes x b 0 _ _ (bare_takes ValueHasRoom literal_bytes (0 ∷ []) value.Null tt refl bytes x fits) (
    one_tag ValueHasRoom literal_bytes bytes x b 1 _ _ (made_takes ValueHasRoom literal_bytes (1 ∷ []) value.Bool bool_takes (λ a h. tt) (λ a. refl) bytes x fits) (
    one_tag ValueHasRoom literal_bytes bytes x b 2 _ _ (int_takes bytes x fits) (
    one_tag ValueHasRoom literal_bytes bytes x b 3 _ _ (made_takes ValueHasRoom literal_bytes (3 ∷ []) value.Text text_takes (λ a h. h) (λ a. refl) bytes x fits) (
    none_tag ValueHasRoom literal_bytes bytes x b))))

pub literal_takes : Takes ValueHasRoom literal_bytes literal_at
unfolding literal_at
literal_takes = tag_takes ValueHasRoom literal_bytes literal_of literal_of_takes

pub literal_again : (v : Value) → ValueHasRoom v → Again literal_at (literal_bytes v) v
unfolding literal_at byte_at
literal_again value.Null room rest = refl
literal_again (value.Bool b) room rest = made_again value.Bool (coded_at bool_of) (bool_byte b) b (bool_again b) rest
literal_again (value.Int n) room rest =
    rw (number_again w64 (2 ^ 64) wide64 (cast_unsigned w64 n) rest (Fits-of_z {w = w64} room).fits, to_z-of_z w64 n room) refl
literal_again (value.Text text) room rest = made_again value.Text text_at (text_bytes text) text (text_again text room) rest

-- ---- limits

limit_of_takes : (b : ℕ) (bytes : List ℕ) (x : Option ℕ × List ℕ) → IsBytes bytes → limit_of b bytes ≡ Some x → Took LimitHasRoom limit_bytes (b ∷ bytes) x.0 x.1
limit_of_takes b bytes x fits =
    one_tag LimitHasRoom limit_bytes bytes x b 0 _ _ (bare_takes LimitHasRoom limit_bytes (0 ∷ []) None tt refl bytes x fits) (
    one_tag LimitHasRoom limit_bytes bytes x b 1 _ _ (made_takes LimitHasRoom limit_bytes (1 ∷ []) Some (number_takes w64 (2 ^ 64) wide64) (λ a h. h) (λ a. refl) bytes x fits) (
    none_tag LimitHasRoom limit_bytes bytes x b))

pub limit_takes : Takes LimitHasRoom limit_bytes limit_at
unfolding limit_at
limit_takes = tag_takes LimitHasRoom limit_bytes limit_of limit_of_takes

pub limit_again : (limit : Option ℕ) → LimitHasRoom limit → Again limit_at (limit_bytes limit) limit
unfolding limit_at byte_at
limit_again None room rest = refl
limit_again (Some n) room rest = made_again Some (number_at w64) (to_be_bytes w64 n) n (λ rest. number_again w64 (2 ^ 64) wide64 n rest room) rest
