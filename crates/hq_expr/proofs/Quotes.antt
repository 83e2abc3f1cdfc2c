-- Texts between quotes, read piece by piece.
use Rattle.std.proofs.Common.{◌≡◌, ℕ, zero, suc, ◌+◌, ◌-◌, ◌<◌, ◌≤◌, ◌==◌, Bool, true, false, cond, not, ◌&&◌, nat_lt, List, [], ◌∷◌, ◌++◌, length, take, drop, slice_index, get_or, Option, Some, None, refl, sym, ap, ◌∙◌, add-one, append_assoc, length-drop, length-take, min, subst, arith}
use Rattle.std.specs.Prelude.{position}
use Rattle.std.specs.List.{prefix_len, position_or_len}
use Rattle.std.specs.Str.{IsUtf8, IsCharBoundary}
use Rattle.std.proofs.lemmas.List.{drop-drop, get_or-drop, get_or-take}
use Rattle.std.proofs.lemmas.Bool.{eqb-true, ltb-true, ltb-false}
use Rattle.std.proofs.lemmas.Str.{IsCharBoundary-after_ascii, IsCharBoundary-before_ascii}
use Rattle.hq_lex.specs.Front.{IsQuoted, front}
use Rattle.hq_lex.specs.declared.token.TokenKind.TheVariants as kind
use Rattle.hq_lex.proofs.TokenLaws.{text_is_quoted}
use Rattle.hq_expr.specs.Lexemes.{without_doubles, is_quote, up_to_quote, behind_quote}

abbrev pub plain_front : List ℕ → ℕ
plain_front z = position_or_len is_quote z

record Piece (z : List ℕ) : Type 0 where
  quote : plain_front z < length z → slice_index z (plain_front z) ≡ 39
  more : plain_front z < length z → without_doubles false z ≡ take (suc (plain_front z)) z ++ without_doubles true (drop (suc (plain_front z)) z)
  all : length z ≤ plain_front z → without_doubles false z ≡ z

piece_step : (b : ℕ) (z : List ℕ) (q : Bool) → is_quote b ≡ q → Piece z → Piece (b ∷ z)
piece_step b z true e p = record {
  quote = λ h. rw e (eqb-true b 39 e);
  more = λ h. rw e refl;
  all = λ h. absurd (omega (arith, rw e at h));
}
piece_step b z false e p =
    let n : 1 + plain_front z ≡ suc (plain_front z) = omega arith in
    record {
      quote = λ h. rw (e, n) (p.quote (omega (arith, rw (e, n) at h)));
      more = λ h. rw (e, n) (ap (λ y. b ∷ y) (p.more (omega (arith, rw (e, n) at h))));
      all = λ h. rw e (ap (λ y. b ∷ y) (p.all (omega (arith, rw (e, n) at h))));
    }

piece : (z : List ℕ) → Piece z
piece [] = record { quote = λ h. absurd (omega (arith, h)); more = λ h. absurd (omega (arith, h)); all = λ h. refl }
piece (b ∷ z) = piece_step b z (is_quote b) refl (piece z)

second_step : (b : ℕ) (z : List ℕ) (q : Bool) → is_quote b ≡ q → cond q (without_doubles false z) (b ∷ without_doubles q z) ≡ without_doubles false (cond q z (b ∷ z))
second_step b z true e = refl
second_step b z false e = rw e refl

behind_second : (z : List ℕ) → without_doubles true z ≡ without_doubles false (cond (is_quote (slice_index z 0)) (drop 1 z) z)
behind_second [] = refl
behind_second (b ∷ z) = second_step b z (is_quote b) refl

-- the place of a first quote
pub record FirstQuote (z : List ℕ) (place : ℕ) : Type 0 where
  pub front : place ≡ plain_front z
  pub within : place < length z
  pub is : slice_index z place ≡ 39

pub first_quote : (z : List ℕ) (place : ℕ) → position is_quote z ≡ Some place → FirstQuote z place
first_quote z place h = go (nat_lt (plain_front z) (length z)) refl h
  where
    go : (b : Bool) → nat_lt (plain_front z) (length z) ≡ b → cond b (Some (plain_front z)) None ≡ Some place → FirstQuote z place
    go false e h = cc
    go true e h =
        let same : plain_front z ≡ place = cc in
        let within = ltb-true (plain_front z) (length z) e in
        record { front = sym same; within = subst (λ n. n < length z) same within; is = subst (λ n. slice_index z n ≡ 39) same ((piece z).quote within) }

drop_second : (z : List ℕ) (n : ℕ) → cond (is_quote (slice_index (drop n z) 0)) (drop 1 (drop n z)) (drop n z) ≡ cond (is_quote (slice_index z n)) (drop (n + 1) z) (drop n z)
drop_second z n = rw (get_or-drop n z 0 0, drop-drop 1 n z) (ap (λ k. cond (is_quote (slice_index z k)) (drop (n + 1) z) (drop n z)) zero_more)
  where
    zero_more : n + 0 ≡ n
    zero_more = omega arith

-- up to its first quote, and what is left of it behind
pub piece_on : (z : List ℕ) (place : ℕ) → position is_quote z ≡ Some place → without_doubles false z ≡ up_to_quote z place ++ without_doubles false (behind_quote z place)
piece_on z place h =
    let found = first_quote z place h in
    let n : suc (plain_front z) ≡ place + 1 = omega (arith, found.front) in
    let more = (piece z).more (subst (λ k. k < length z) found.front found.within) in
    let two : place + 1 + 1 ≡ place + 2 = omega arith in
    more ∙ rw (n) (ap (λ y. take (place + 1) z ++ y) (behind_second (drop (place + 1) z) ∙ ap (without_doubles false) (drop_second z (place + 1) ∙ rw two refl)))

pub piece_all : (z : List ℕ) → position is_quote z ≡ None → without_doubles false z ≡ z
piece_all z h = go (nat_lt (plain_front z) (length z)) refl h
  where
    go : (b : Bool) → nat_lt (plain_front z) (length z) ≡ b → cond b (Some (plain_front z)) None ≡ None → without_doubles false z ≡ z
    go true e h = cc
    go false e h = (piece z).all (ltb-false (plain_front z) (length z) e)

-- where a text may be cut
pub cut_behind : (z : List ℕ) (place : ℕ) → IsUtf8 z → position is_quote z ≡ Some place → IsCharBoundary z (place + 1)
cut_behind z place utf8 h = let found = first_quote z place h in IsCharBoundary-after_ascii z place utf8 found.within (omega (arith, found.is))

pub cut_behind_second : (z : List ℕ) (place : ℕ) → IsUtf8 z → is_quote (slice_index z (place + 1)) ≡ true → IsCharBoundary z (place + 2)
cut_behind_second z place utf8 h =
    let is : slice_index z (place + 1) ≡ 39 = eqb-true (slice_index z (place + 1)) 39 h in
    let within : place + 1 < length z = inside z (place + 1) is in
    let two : place + 1 + 1 ≡ place + 2 = omega arith in
    subst (IsCharBoundary z) two (IsCharBoundary-after_ascii z (place + 1) utf8 within (omega (arith, is)))
  where
    inside : (z : List ℕ) (n : ℕ) → slice_index z n ≡ 39 → n < length z
    inside [] n e = absurd (omega (arith, e))
    inside (b ∷ z) zero e = omega arith
    inside (b ∷ z) (suc n) e = omega (arith, inside z n e)

-- a text between quotes may be cut inside of both
pub cut_inside : (z : List ℕ) → IsUtf8 z → IsQuoted z (length z) → IsCharBoundary z 1 × IsCharBoundary z (length z - 1)
cut_inside z utf8 quoted = (
  IsCharBoundary-after_ascii z 0 utf8 (omega (arith, quoted.long)) (omega (arith, quoted.first)),
  IsCharBoundary-before_ascii z (length z - 1) (omega (arith, quoted.long)) (omega (arith, quoted.last)),
)

pub record TokenCut (text : List ℕ) (start stop : ℕ) : Type 0 where
  pub ordered : start ≤ stop
  pub within : stop ≤ length text
  pub first : IsCharBoundary text start
  pub last : IsCharBoundary text stop
  pub quoted : IsQuoted (take (stop - start) (drop start text)) (length (take (stop - start) (drop start text)))

-- a text is cut out of UTF-8 at both its quotes
pub token_cut : (text : List ℕ) (start stop : ℕ) → IsUtf8 text → front (drop start text) ≡ Some (kind.Text, stop - start) → TokenCut text start stop
token_cut text start stop utf8 h =
    let q = text_is_quoted (drop start text) (stop - start) h in
    let len : length (drop start text) ≡ length text - start = length-drop start text in
    let all : length (take (stop - start) (drop start text)) ≡ stop - start = length-take (stop - start) (drop start text) ∙ min_left (stop - start) (length (drop start text)) q.within in
    let at_first : slice_index text (start + 0) ≡ 39 = sym (get_or-drop start text 0 0) ∙ q.first in
    let at_last : slice_index text (start + (stop - start - 1)) ≡ 39 = sym (get_or-drop start text (stop - start - 1) 0) ∙ q.last in
    let first_place : start + 0 ≡ start = omega arith in
    let last_place : start + (stop - start - 1) ≡ stop - 1 = omega (arith, q.long) in
    let behind : stop - 1 + 1 ≡ stop = omega (arith, q.long) in
    let first : slice_index text start ≡ 39 = subst (λ n. slice_index text n ≡ 39) first_place at_first in
    let last : slice_index text (stop - 1) ≡ 39 = subst (λ n. slice_index text n ≡ 39) last_place at_last in
    record {
      ordered = omega (arith, q.long);
      within = omega (arith, q.within, len, q.long);
      first = IsCharBoundary-before_ascii text start (omega (arith, q.within, len, q.long)) (omega (arith, first));
      last = subst (IsCharBoundary text) behind (IsCharBoundary-after_ascii text (stop - 1) utf8 (omega (arith, q.within, len, q.long)) (omega (arith, last)));
      quoted = rw all (record {
        long = q.long;
        within = omega (arith, all);
        first = get_or-take (stop - start) (drop start text) 0 0 (omega (arith, q.long)) ∙ q.first;
        last = get_or-take (stop - start) (drop start text) (stop - start - 1) 0 (omega (arith, q.long)) ∙ q.last;
      });
    }
  where
    min_left : (a b : ℕ) → a ≤ b → min a b ≡ a
    min_left a b h = omega (arith, h)

-- one piece more
pub one_piece : (t t' r r' u content : List ℕ) (place : ℕ) → t' ≡ t ++ u → u ≡ up_to_quote r place → r' ≡ behind_quote r place → Some place ≡ position is_quote r
    → t ++ without_doubles false r ≡ without_doubles false content → t' ++ without_doubles false r' ≡ without_doubles false content
one_piece t t' r r' u content place pushed up behind found before =
    rw (pushed, behind, up) (append_assoc t (up_to_quote r place) (without_doubles false (behind_quote r place)) ∙ ap (λ y. t ++ y) (sym (piece_on r place (sym found))) ∙ before)
