-- The pieces of an input, cut once.
use Rattle.std.proofs.Common.{◌≡◌, ◌≢◌, ◌+◌, ◌<◌, ◌≤◌, ℕ, Bool, true, false, cond, List, [], ◌∷◌, ◌++◌, length, nat_le, None, Some, refl, ap, sym, ◌∙◌, append_assoc, append-nil, arith}
use Rattle.std.proofs.lemmas.Bool.Decides.{nat_tests}
use Rattle.hq_io.specs.Pieces.{behind, ends_piece, texts, texts_from, onto_first, pieces_of, ended_pieces, ended_piece, rest_pieces, Piece, unended, MOST}
use Rattle.std.proofs.Common.{◌^◌, IfSome, inl, inr, subst, length-append}
use Rattle.std.specs.declared.option.Option.{Option}
use Rattle.std.specs.Io.KnownBytes.{prepend_known}
use Rattle.hq_io.specs.declared.kind.Kind.{Kind}
use Rattle.hq_io.specs.declared.kind.Kind.TheVariants as kinds
use Rattle.hq_io.specs.declared.gather.Stop.{Stop}
use Rattle.hq_io.specs.declared.gather.Stop.TheVariants as stops
use Rattle.hq_io.specs.Told.{IfTold}
use Rattle.hq_io.specs.Counted.{Counted}
use Rattle.hq_io.specs.Pieces.{is_blank}
use Rattle.hq_io.specs.Reading.{Reading, ahead, ahead_of, pieces_given, Cuts, PassesLimit, GivesPiece, TakesMost, Ends, EndsNone, Breaks}
use Rattle.hq_io.specs.Scanning.{Passes, is_outside}
use Rattle.hq_io.specs.Gathering.{Gathered, GatheredOutside, EndsNoPiece, Stopped, Uncut, kind_of, is_rest}
use Rattle.hq_io.specs.declared.place.Place.{Place}
use Rattle.hq_io.specs.declared.place.Place.TheVariants as places
use Rattle.hq_io.specs.declared.scan.Spot.{Spot}
use Rattle.hq_io.specs.declared.scan.Spot.TheVariants as spots
use Rattle.hq_io.proofs.Scanning.{texts-cut, texts-rest}

onto_first-some : (b : ℕ) (ts : List (List ℕ)) → (first : List ℕ) × (more : List (List ℕ)) × (onto_first b ts ≡ first ∷ more)
onto_first-some b [] = (b ∷ [], [], refl)
onto_first-some b (t ∷ ts) = (b ∷ t, ts, refl)

-- the texts of an input are never none
pub texts-some : (at : Place) (xs : List ℕ) → (first : List ℕ) × (more : List (List ℕ)) × (texts_from at xs ≡ first ∷ more)
texts-some at [] = ([], [], refl)
texts-some at (b ∷ bs) = elim (ends_piece at b) as (λ v. (first : List ℕ) × (more : List (List ℕ)) × (cond v ([] ∷ texts bs) (onto_first b (texts_from (behind at b bs) bs)) ≡ first ∷ more)) [ true ↦ ([], texts bs, refl) | false ↦ onto_first-some b (texts_from (behind at b bs) bs) ]

pub pieces-cut : (seen rest : List ℕ) (to : Spot) → Passes spots.Outside seen to → is_outside to ≡ true → pieces_of (seen ++ 59 ∷ rest) ≡ ended_piece seen ∷ pieces_of rest
pieces-cut seen rest to p out = let some = texts-some places.Outside rest in let e : texts rest ≡ some.0 ∷ some.1 = some.2 in rw (texts-cut seen rest to p out, e) refl

pub pieces-rest : (seen : List ℕ) (to : Spot) → Passes spots.Outside seen to → pieces_of seen ≡ rest_pieces seen
pieces-rest seen to p = rw (texts-rest seen to p) refl

pub ended-cut : (seen rest : List ℕ) (to : Spot) → Passes spots.Outside seen to → is_outside to ≡ true → ended_pieces (seen ++ 59 ∷ rest) ≡ ended_piece seen ∷ ended_pieces rest
ended-cut seen rest to p out = let some = texts-some places.Outside rest in let e : texts rest ≡ some.0 ∷ some.1 = some.2 in rw (texts-cut seen rest to p out, e) refl

pub ended-none : (seen : List ℕ) → EndsNoPiece seen → ended_pieces seen ≡ []
ended-none seen p = rw (texts-rest seen p.to p.passes) refl

le-false : (m n : ℕ) → n < m → nat_le m n ≡ false
le-false m n h = grind (arith, nat_tests)

le-true : (m n : ℕ) → m ≤ n → nat_le m n ≡ true
le-true m n h = grind (arith, nat_tests)

-- the piece that a text gives, by whether it was too long
ended-is : (long : Bool) (seen text : List ℕ) (to : Spot) → Gathered seen to long text → ended_piece seen ∷ [] ≡ pieces_given (kind_of (stops.Ended long) text) text
ended-is true seen text to g = rw (le-false (length seen) MOST g.kept.0) refl
ended-is false seen text to g = rw (← g.kept, le-true (length text) MOST g.fits) refl

blank-is : (b : Bool) (text : List ℕ) → cond b [] (unended ∷ []) ≡ pieces_given (cond b kinds.End kinds.Unended) text
blank-is true text = refl
blank-is false text = refl

rest-is : (long : Bool) (seen text : List ℕ) (to : Spot) → Gathered seen to long text → rest_pieces seen ≡ pieces_given (kind_of (stops.Rest long) text) text
rest-is true seen text to g = rw (le-false (length seen) MOST g.kept.0) refl
rest-is false seen text to g = rw (← g.kept, le-true (length text) MOST g.fits) (blank-is (is_blank text) text)

-- a text and its `;` end one piece, whatever follows
ends-one : (long : Bool) (seen text xs ys : List ℕ) → GatheredOutside seen long text → xs ≡ (seen ++ 59 ∷ []) ++ ys → Ends (pieces_given (kind_of (stops.Ended long) text) text) xs ys
ends-one long seen text xs ys g is = record {
  bytes = seen ++ 59 ∷ [];
  taken = is;
  ended = λ more. ap ended_pieces (append_assoc seen (59 ∷ []) more) ∙ ended-cut seen more g.0 g.1.passes g.2 ∙ ap (λ ps. ps ++ ended_pieces more) (ended-is long seen text g.0 g.1);
}

-- what a stop says of told bytes
record Told (stop : Stop) (xs : List ℕ) (after : Option (List ℕ)) (text : List ℕ) (before now : ℕ) : Type 0 where
  ys : List ℕ
  some : after ≡ Some ys
  pieces : pieces_of xs ≡ pieces_given (kind_of stop text) text ++ pieces_of ys
  taken : now + length ys ≡ before + length xs
  end : is_rest stop ≡ true → ys ≡ []
  ends : is_rest stop ≡ false → Ends (pieces_given (kind_of stop text) text) xs ys

cut-told : (stop : Stop) (xs : List ℕ) (after : Option (List ℕ)) (text : List ℕ) (before now : ℕ) → Stopped stop (Some xs) after text before now → kind_of stop text ≢ kinds.Limit → Told stop xs after text before now
cut-told (stops.Ended long) xs None text before now s n = absurd s.2
cut-told (stops.Ended long) xs (Some ys) text before now s n =
    let whole : xs ≡ s.0 ++ 59 ∷ ys = s.2 ∙ append_assoc s.0 (59 ∷ []) ys in
    let pieces : pieces_of xs ≡ ended_piece s.0 ∷ pieces_of ys = ap pieces_of whole ∙ pieces-cut s.0 ys s.1.0 s.1.1.passes s.1.2 in
    record {
      ys = ys;
      some = refl;
      pieces = pieces ∙ ap (λ ps. ps ++ pieces_of ys) (ended-is long s.0 text s.1.0 s.1.1);
      taken = omega (arith, s.3, ap length whole, length-append s.0 (59 ∷ ys));
      end = λ e. absurd (cc);
      ends = λ e. ends-one long s.0 text xs ys s.1 s.2;
    }
cut-told (stops.Rest long) xs None text before now s n = absurd s.2
cut-told (stops.Rest long) xs (Some ys) text before now s n =
    let none : ys ≡ [] = s.3 in
    let whole : xs ≡ s.0 ++ ys = s.2 in
    let same : xs ≡ s.0 = rw none at whole ∙ append-nil s.0 in
    let pieces : pieces_of xs ≡ rest_pieces s.0 = ap pieces_of same ∙ pieces-rest s.0 s.1.0 s.1.1.passes in
    record {
      ys = ys;
      some = refl;
      pieces = rw (none, pieces, rest-is long s.0 text s.1.0 s.1.1) (sym (append-nil _));
      taken = omega (arith, s.4, ap length whole, length-append s.0 ys);
      end = λ e. none;
      ends = λ e. absurd (cc);
    }
cut-told stops.Limit xs after text before now s n = absurd (n refl)

ahead-some : (b : Bool) (held : List ℕ) (left : Option (List ℕ)) (ys : List ℕ) → prepend_known held left ≡ Some ys → (b ≡ true → ys ≡ []) → ahead_of b held left ≡ Some ys
ahead-some true held left ys e h = ap Some (sym (h refl))
ahead-some false held left ys e h = e

told-both : {a b : Option (List ℕ)} {xs ys : List ℕ} (P : List ℕ → List ℕ → Type 0) → a ≡ Some xs → b ≡ Some ys → P xs ys → IfTold a b P
told-both {a} {b} {xs} {ys} P p q h = rw (p, q) h

pub advance-cuts : (k : Kind) (stop : Stop) (old new : Reading) (left left' : Option (List ℕ)) → old.ended ≡ false → new.ended ≡ is_rest stop → k ≡ kind_of stop new.text → Stopped stop (prepend_known old.held left) (prepend_known new.held left') new.text old.taken new.taken → k ≢ kinds.Limit → IfTold (ahead old left) (ahead new left') (Cuts k old new)
advance-cuts k stop old new None left' live over is s n = rw live tt
advance-cuts k stop old new (Some bytes) left' live over is s n =
    let told : Told stop (old.held ++ bytes) (prepend_known new.held left') new.text old.taken new.taken = cut-told stop _ _ _ _ _ s (λ e. n (is ∙ e)) in
    let now : ahead new left' ≡ Some told.ys = ap (λ b. ahead_of b new.held left') over ∙ ahead-some (is_rest stop) new.held left' told.ys told.some told.end in
    let before : ahead old (Some bytes) ≡ Some (old.held ++ bytes) = ap (λ b. ahead_of b old.held (Some bytes)) live in
    told-both (Cuts k old new) before now (record {
      pieces = told.pieces ∙ ap (λ each. pieces_given each new.text ++ pieces_of told.ys) (sym is);
      taken = told.taken;
      ended = λ e. subst (λ each. Ends (pieces_given each new.text) (old.held ++ bytes) told.ys) (sym is) (told.ends (sym over ∙ e));
    })

blank-limit : (b : Bool) → cond b kinds.End kinds.Unended ≡ kinds.Limit → ⊥
blank-limit true e = cc
blank-limit false e = cc

pub counted-is : (k result : Kind) (before now : ℕ) → Counted k result before now → result ≢ kinds.Limit → result ≡ k
counted-is k result before now (inl p) n = p.0
counted-is k result before now (inr p) n = absurd (n p.0)

-- the only stop that is answered as the limit
limit-is : (stop : Stop) (text : List ℕ) → kind_of stop text ≡ kinds.Limit → stop ≡ stops.Limit
limit-is (stops.Ended true) text e = absurd (cc)
limit-is (stops.Ended false) text e = absurd (cc)
limit-is (stops.Rest true) text e = absurd (cc)
limit-is (stops.Rest false) text e = absurd (blank-limit (is_blank text) e)
limit-is stops.Limit text e = refl

pub advance-breaks : (old new : Reading) (left left' : Option (List ℕ)) → old.ended ≡ false → new.held ≡ [] → Uncut (prepend_known old.held left) (prepend_known new.held left') old.taken new.taken → IfTold (ahead old left) left' (Breaks old new)
advance-breaks old new None left' live none u = rw live tt
advance-breaks old new (Some bytes) None live none u = absurd u.2
advance-breaks old new (Some bytes) (Some ys) live none u =
    let taken : old.held ++ bytes ≡ u.0 ++ ys = u.2 ∙ ap (λ held. u.0 ++ (held ++ ys)) none in
    rw live (record {
      taken = omega (arith, u.3, ap length taken, length-append u.0 ys);
      none = record { bytes = u.0; taken = taken; none = ended-none u.0 u.1 };
    })

one-piece : (k : Kind) (text : List ℕ) → k ≢ kinds.End → k ≢ kinds.Limit → (piece : Piece) × (pieces_given k text ≡ piece ∷ [])
one-piece kinds.Statement text e l = (_, refl)
one-piece kinds.TooLong text e l = (_, refl)
one-piece kinds.Unended text e l = (_, refl)
one-piece kinds.End text e l = absurd (e refl)
one-piece kinds.Limit text e l = absurd (l refl)

some-after : (held : List ℕ) (left : Option (List ℕ)) (xs text : List ℕ) (before now : ℕ) → Stopped stops.Limit (Some xs) (prepend_known held left) text before now → (ys : List ℕ) × (prepend_known held left ≡ Some ys)
some-after held None xs text before now s = absurd s.0.2
some-after held (Some zs) xs text before now s = (held ++ zs, refl)

takes-most : (old new : Reading) (xs ys text : List ℕ) → new.ended ≡ false → 0 < length new.held → Stopped stops.Limit (Some xs) (Some ys) text old.taken new.taken → TakesMost old new xs ys
takes-most old new xs ys text going more s = record {
  none = record { bytes = s.0.0; taken = s.0.2; none = ended-none s.0.0 s.0.1 };
  taken = omega (arith, s.0.3, ap length s.0.2, length-append s.0.0 ys);
  most = s.2;
  more = more;
  going = going;
}

pub advance-limit : (result : Kind) (stop : Stop) (old new : Reading) (left left' : Option (List ℕ)) (count count' : ℕ) → old.ended ≡ false → new.ended ≡ is_rest stop → old.pieces ≡ count → (stop ≡ stops.Limit → 0 < length new.held) → Counted (kind_of stop new.text) result count count' → Stopped stop (prepend_known old.held left) (prepend_known new.held left') new.text old.taken new.taken → result ≡ kinds.Limit → IfTold (ahead old left) (ahead new left') (PassesLimit old new)
advance-limit result stop old new None left' count count' live over same more c s e = rw live tt
advance-limit result stop old new (Some bytes) left' count count' live over same more (inl p) s e =
    let is : stop ≡ stops.Limit = limit-is stop new.text (sym p.0 ∙ e) in
    let s' : Stopped stops.Limit (Some (old.held ++ bytes)) (prepend_known new.held left') new.text old.taken new.taken = rw is at s in
    let found = some-after new.held left' _ new.text _ _ s' in
    let going : new.ended ≡ false = over ∙ ap is_rest is in
    let now : ahead new left' ≡ Some found.0 = ap (λ b. ahead_of b new.held left') going ∙ found.1 in
    let before : ahead old (Some bytes) ≡ Some (old.held ++ bytes) = ap (λ b. ahead_of b old.held (Some bytes)) live in
    told-both (PassesLimit old new) before now (inr (takes-most old new _ _ new.text going (more is) (subst (λ after. Stopped stops.Limit (Some (old.held ++ bytes)) after new.text old.taken new.taken) found.1 s')))
advance-limit result stop old new (Some bytes) left' count count' live over same more (inr p) s e =
    let told : Told stop (old.held ++ bytes) (prepend_known new.held left') new.text old.taken new.taken = cut-told stop _ _ _ _ _ s p.2 in
    let now : ahead new left' ≡ Some told.ys = ap (λ b. ahead_of b new.held left') over ∙ ahead-some (is_rest stop) new.held left' told.ys told.some told.end in
    let before : ahead old (Some bytes) ≡ Some (old.held ++ bytes) = ap (λ b. ahead_of b old.held (Some bytes)) live in
    let one = one-piece (kind_of stop new.text) new.text p.1 p.2 in
    told-both (PassesLimit old new) before now (inl (same ∙ p.3, (one.0, told.pieces ∙ ap (λ ps. ps ++ pieces_of told.ys) one.1, λ n. subst (λ ps. Ends ps (old.held ++ bytes) told.ys) one.1 (told.ends (sym over ∙ n)))))
