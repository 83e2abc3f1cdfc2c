-- How far a session has come in its input, one piece more, and where it ends.
use Rattle.std.proofs.Common.{◌≡◌, ◌≢◌, ◌+◌, ◌≤◌, ◌^◌, ℕ, Bool, true, false, List, [], ◌∷◌, ◌++◌, length, take, drop, Option, None, Some, Result, Ok, Err, IfSome, IsSome, ◌⊎◌, ◌<◌, ◌-◌, refl, ap, sym, subst, inl, inr, ◌∙◌, append_assoc, append-nil, arith, length-append, take-append-drop}
use Rattle.std.specs.Io.KnownBytes.{append_known, prepend_known, IsAtEnd}
use Rattle.std.proofs.lemmas.Bool.{cases_lt}
use Rattle.std.proofs.lemmas.List.{length-take-le}
use Rattle.std.proofs.lemmas.Grind.{common_steps}
use Rattle.hq_io.specs.declared.kind.Kind.{Kind}
use Rattle.hq_io.specs.declared.kind.Kind.TheVariants as kinds
use Rattle.hq_io.specs.Told.{IfTold, WritesPrefix}
use Rattle.hq_io.specs.Pieces.{Piece, pieces_of, ended_pieces}
use Rattle.hq_io.specs.Reading.{Reading, ahead, ahead_of, pieces_given, Ends, Cuts, Breaks, PassesLimit}
use Rattle.hq_io.proofs.Given.{Ends-none, Ends-then, Ends-all}
use Rattle.hq_reply.specs.declared.reply.Reply.{Reply}
use Rattle.hq_reply.specs.Texts.{reply_text, replies_text}
use Rattle.hq_transcript.specs.declared.why.EndWhy.{EndWhy}
use Rattle.hq_transcript.specs.declared.why.EndWhy.TheVariants as whys
use Rattle.hq_transcript.specs.Reaching.{Reaches, IsOverLimit, GaveEnded, AreFirst, EndWithin, PassesLimits}
use Rattle.hq_serve.specs.Inputs.{IsCut, text_of}
use Rattle.hq_serve.specs.Served.{WroteOnto}

-- ---- what is written

abbrev Appends : Option (List ℕ) → Option (List ℕ) → List ℕ → Type 0
Appends old new bytes = new ≡ append_known old bytes

pub Appends-none : (o : Option (List ℕ)) → Appends o o []
Appends-none None = refl
Appends-none (Some xs) = ap Some (sym (append-nil xs))

append_known-append : (o : Option (List ℕ)) (xs ys : List ℕ) → append_known (append_known o xs) ys ≡ append_known o (xs ++ ys)
append_known-append None xs ys = refl
append_known-append (Some zs) xs ys = ap Some (append_assoc zs xs ys)

Appends-then : (a b c : Option (List ℕ)) (xs ys : List ℕ) → Appends a b xs → Appends b c ys → Appends a c (xs ++ ys)
Appends-then a b c xs ys p q = q ∙ ap (λ o. append_known o ys) p ∙ append_known-append a xs ys

replies-push : (replies : List (Option Reply)) (r : Option Reply) → replies_text (replies ++ r ∷ []) ≡ replies_text replies ++ text_of r
replies-push [] None = refl
replies-push [] (Some r) = append-nil (reply_text r)
replies-push (None ∷ replies) r = replies-push replies r
replies-push (Some x ∷ replies) r = ap (λ t. reply_text x ++ t) (replies-push replies r) ∙ sym (append_assoc (reply_text x) (replies_text replies) (text_of r))

take-whole : (n : ℕ) (xs : List ℕ) → n ≡ length xs → take n xs ≡ xs
take-whole n xs e = grind (arith, common_steps)

abbrev pub ok_of : {E : Type 0} → Unit {0} → Result Unit E
ok_of u = Ok u

-- a reply was written whole
pub written-more : {E : Type 0} (first now next : Option (List ℕ)) (replies : List (Option Reply)) (r : Option Reply) (u : Unit {0}) → Appends first now (replies_text replies)
    → WritesPrefix now next (ok_of {E = E} u) (text_of r) → Appends first next (replies_text (replies ++ r ∷ []))
written-more first now next replies r u h w =
    Appends-then first now next (replies_text replies) (text_of r) h (w.appended ∙ ap (append_known now) (take-whole w.count (text_of r) w.whole))
    ∙ ap (append_known first) (sym (replies-push replies r))

-- a first part of it was
pub written-part : {E : Type 0} (first now next : Option (List ℕ)) (replies : List (Option Reply)) (r : Option Reply) (result : Result Unit E) → Appends first now (replies_text replies)
    → WritesPrefix now next result (text_of r) → IsSome r → WroteOnto whys.SinkFault (replies ++ r ∷ []) first next
written-part first now next replies None result h w some = cc
written-part first now next replies (Some r) result h w some =
    let part : List ℕ = take w.count (reply_text r) in (
      replies_text replies ++ part,
      Appends-then first now next (replies_text replies) part h w.appended,
      (replies, r, part, drop w.count (reply_text r), refl, sym (take-append-drop w.count (reply_text r)), refl),
    )

-- ---- what is cut

-- a reader that gave another answer than the end has not ended
pub live-by : {E : Type 0} (ended : Bool) (result : Result Kind E) → (ended ≡ true → result ≡ Ok kinds.End) → result ≢ Ok kinds.End → ended ≡ false
live-by true result over other = absurd (other (over refl))
live-by false result over other = refl

pub no-end : {E : Type 0} (kind : Kind) → kind ≢ kinds.End → ◌≡◌ {A = Result Kind E} (Ok kind) (Ok kinds.End) → ⊥
no-end {E} kind n e = n (ap (kind_or {E = E} kind) e)
  where
    kind_or : {E : Type 0} → Kind → Result Kind E → Kind
    kind_or k (Ok j) = j
    kind_or k (Err f) = k

pub one-given : (kind : Kind) (text : List ℕ) → kind ≢ kinds.End → kind ≢ kinds.Limit → length (pieces_given kind text) ≡ 1
one-given kinds.Statement text e l = refl
one-given kinds.TooLong text e l = refl
one-given kinds.Unended text e l = refl
one-given kinds.End text e l = absurd (e refl)
one-given kinds.Limit text e l = absurd (l refl)

pub cut-none : (left : Option (List ℕ)) (reader : Reading) → reader ≡ record { held = []; ended = false; text = []; pieces = 0; taken = 0 } → IfTold left (ahead reader left) (IsCut [] reader)
cut-none left reader e = subst (λ (r : Reading). IfTold left (ahead r left) (IsCut [] r)) (sym e) (fresh left)
  where
    fresh : (left : Option (List ℕ)) → IfTold left (prepend_known [] left) (IsCut [] (record { held = []; ended = false; text = []; pieces = 0; taken = 0 }))
    fresh None = tt
    fresh (Some xs) = record { pieces = refl; bytes = omega arith; ends = λ _. Ends-none xs }

cut-told : (ios : List Piece) (kind : Kind) (old new : Reading) (whole before after : List ℕ) → old.ended ≡ false → IsCut ios old whole before → Cuts kind old new before after
    → IsCut (ios ++ pieces_given kind new.text) new whole after
cut-told ios kind old new whole before after live s c = record {
  pieces = s.pieces ∙ ap (λ r. ios ++ r) c.pieces ∙ sym (append_assoc ios (pieces_given kind new.text) (pieces_of after));
  bytes = omega (arith, s.bytes, c.taken);
  ends = λ going. Ends-then ios (pieces_given kind new.text) whole before after (s.ends live) (c.ended going);
}

pub cut-more : (whole a b : Option (List ℕ)) (ios : List Piece) (kind : Kind) (old new : Reading) → old.ended ≡ false
    → IfTold whole a (IsCut ios old) → IfTold a b (Cuts kind old new) → IfTold whole b (IsCut (ios ++ pieces_given kind new.text) new)
cut-more None a b ios kind old new live s c = tt
cut-more (Some xs) None b ios kind old new live s c = absurd s
cut-more (Some xs) (Some ys) None ios kind old new live s c = absurd c
cut-more (Some xs) (Some ys) (Some zs) ios kind old new live s c = cut-told ios kind old new xs ys zs live s c

-- ---- where it ends

-- it ends behind these pieces
abbrev pub ReachesBy : EndWhy → Option (List ℕ) → Option (List ℕ) → List Piece → Type 0
ReachesBy why whole left ios = IfSome whole (λ input. Reaches why input left (length ios) × ((more : List Piece) × (pieces_of input ≡ ios ++ more)))

ahead-over : (reader : Reading) (left : Option (List ℕ)) → reader.ended ≡ true → ahead reader left ≡ Some []
ahead-over reader left e = rw e refl

end-within : (ios : List Piece) (old new : Reading) (whole before : List ℕ) → length ios ≡ old.pieces → old.pieces ≤ 100000 → new.taken ≤ 2 ^ 32 → IsCut ios old whole before → Cuts kinds.End old new before []
    → IsOverLimit whole → ⊥
end-within ios old new whole before count few short s c (inl more) =
    omega (arith, more, few, count, ap length s.pieces, length-append ios (pieces_of before), ap length c.pieces)
end-within ios old new whole before count few short s c (inr more) = omega (arith, more, short, s.bytes, c.taken)

pub reached-end : (whole a left : Option (List ℕ)) (ios : List Piece) (old new : Reading) → new.ended ≡ true → length ios ≡ old.pieces → old.pieces ≤ 100000 → new.taken ≤ 2 ^ 32 → IsAtEnd left
    → IfTold whole a (IsCut ios old) → IfTold a (ahead new left) (Cuts kinds.End old new) → ReachesBy whys.End whole left ios
reached-end whole a left ios old new over count few short none s c = by whole a s (subst (λ o. IfTold a o (Cuts kinds.End old new)) (ahead-over new left over) c)
  where
    by : (whole a : Option (List ℕ)) → IfTold whole a (IsCut ios old) → IfTold a (Some []) (Cuts kinds.End old new) → ReachesBy whys.End whole left ios
    by None a s c = tt
    by (Some xs) None s c = absurd s
    by (Some xs) (Some ys) s c =
        let all : pieces_of xs ≡ ios ++ [] = s.pieces ∙ ap (λ r. ios ++ r) c.pieces in
        ((ap length (sym (all ∙ append-nil ios)), end-within ios old new xs ys count few short s c, none), ([], all))

pub reached-source : (whole a left : Option (List ℕ)) (ios : List Piece) (old new : Reading) → old.ended ≡ false → IfTold whole a (IsCut ios old) → IfTold a left (Breaks old new)
    → ReachesBy whys.SourceFault whole left ios
reached-source None a left ios old new live s b = tt
reached-source (Some xs) None left ios old new live s b = absurd s
reached-source (Some xs) (Some ys) None ios old new live s b = absurd b
reached-source (Some xs) (Some ys) (Some zs) ios old new live s b =
    let g = Ends-all ios xs ys zs (s.ends live) b.none in
    ((g.0, g.1, ap length (sym g.2)), (pieces_of ys, s.pieces))

-- a piece was given whose reply met the fault
pub reached-sink : (whole a b left : Option (List ℕ)) (ios : List Piece) (kind : Kind) (old new : Reading) → length (pieces_given kind new.text) ≡ 1 → IfTold whole a (IsCut ios old)
    → IfTold a b (Cuts kind old new) → ReachesBy whys.SinkFault whole left (ios ++ pieces_given kind new.text)
reached-sink None a b left ios kind old new one s c = tt
reached-sink (Some xs) None b left ios kind old new one s c = absurd s
reached-sink (Some xs) (Some ys) None left ios kind old new one s c = absurd c
reached-sink (Some xs) (Some ys) (Some zs) left ios kind old new one s c =
    let all : pieces_of xs ≡ (ios ++ pieces_given kind new.text) ++ pieces_of zs = s.pieces ∙ ap (λ r. ios ++ r) c.pieces ∙ sym (append_assoc ios (pieces_given kind new.text) (pieces_of zs)) in
    ((omega (arith, one, length-append ios (pieces_given kind new.text)), omega (arith, ap length all, length-append (ios ++ pieces_given kind new.text) (pieces_of zs))), (pieces_of zs, all))

-- ---- at a limit

-- the first items of a list that goes on behind others
first-behind : {X : Type 0} (most : ℕ) (front rest : List X) → length front ≤ most → (back : List X) × AreFirst most (front ++ rest) (front ++ back)
first-behind {X} most front rest short = by (most - length front) (omega (arith, short)) (cases_lt (length rest) (most - length front))
  where
    by : (n : ℕ) → length front + n ≡ most → (length rest < n) ⊎ (n ≤ length rest) → (back : List X) × AreFirst most (front ++ rest) (front ++ back)
    by n is (inl less) = (rest, record { more = []; parts = sym (append-nil (front ++ rest)); most_or_all = inr (refl, omega (arith, is, less, length-append front rest)) })
    by n is (inr enough) = (
      take n rest,
      record {
        more = drop n rest;
        parts = ap (λ r. front ++ r) (sym (take-append-drop n rest)) ∙ sym (append_assoc front (take n rest) (drop n rest));
        most_or_all = inl (omega (arith, is, length-append front (take n rest), length-take-le n rest enough));
      },
    )

-- the pieces so far are those that ended within both limits
limit-within : (ios : List Piece) (old new : Reading) (whole before after : List ℕ) → length ios ≡ old.pieces → old.ended ≡ false → old.pieces ≤ 100000 → old.taken ≤ 2 ^ 32
    → IsCut ios old whole before → PassesLimit old new before after → EndWithin whole (length ios)
limit-within ios old new whole before after count live few short s (inl p) =
    let e = s.ends live in
    let f = first-behind (2 ^ 32) e.bytes before (omega (arith, s.bytes, short, ap length e.taken, length-append e.bytes before)) in
    record {
      within = e.bytes ++ f.0;
      first_bytes = subst (λ w. AreFirst (2 ^ 32) w (e.bytes ++ f.0)) (sym e.taken) f.1;
      pieces = ios;
      first_pieces = record { more = ended_pieces f.0; parts = e.ended f.0; most_or_all = inl (count ∙ p.0) };
      count = refl;
    }
limit-within ios old new whole before after count live few short s (inr t) =
    let g = Ends-all ios whole before after (s.ends live) t.none in
    record {
      within = g.0;
      first_bytes = record { more = after; parts = g.1; most_or_all = inl (omega (arith, s.bytes, t.taken, t.most, ap length g.1, length-append g.0 after)) };
      pieces = ios;
      first_pieces = record { more = []; parts = g.2 ∙ sym (append-nil ios); most_or_all = inr (refl, omega (arith, count, few)) };
      count = refl;
    }

-- a piece past the last one ended in what the source gave
gave-ended : (pieces : List Piece) (piece : Piece) (whole before held left : List ℕ) → length pieces ≡ 100000 → Ends pieces whole before → Ends (piece ∷ []) before (held ++ left) → PassesLimits whole left
gave-ended pieces piece whole before held left many p q =
    let e = Ends-then pieces (piece ∷ []) whole before (held ++ left) p q in (
      e.bytes ++ held,
      e.taken ∙ sym (append_assoc e.bytes held left),
      inl (omega (arith, many, ap length (e.ended held), length-append (pieces ++ piece ∷ []) (ended_pieces held), length-append pieces (piece ∷ []))),
    )

-- it is the rest of all that the source had
gave-rest : (pieces : List Piece) (piece : Piece) (whole before after left : List ℕ) → length pieces ≡ 100000 → pieces_of whole ≡ pieces ++ pieces_of before → pieces_of before ≡ piece ∷ pieces_of after → left ≡ [] → PassesLimits whole left
gave-rest pieces piece whole before after left many all more none = (
  whole,
  sym (ap (λ l. whole ++ l) none ∙ append-nil whole),
  inr (inl (none, omega (arith, many, ap length all, length-append pieces (pieces_of before), ap length more))),
)

-- a byte more was read
gave-byte : (given whole held left : List ℕ) → whole ≡ given ++ (held ++ left) → length given ≡ 2 ^ 32 → 0 < length held → PassesLimits whole left
gave-byte given whole held left is most more = (given ++ held, is ∙ sym (append_assoc given held left), inr (inr (omega (arith, most, more, length-append given held))))

-- what the source gave passes a limit, by whether the reader came to the end
limit-gave : (ios : List Piece) (old new : Reading) (whole before left : List ℕ) → length ios ≡ old.pieces → old.ended ≡ false → (new.ended ≡ true → left ≡ []) → IsCut ios old whole before
    → IfTold (Some before) (ahead new (Some left)) (PassesLimit old new) → PassesLimits whole left
limit-gave ios old new whole before left count live over s l = by new.ended refl l
  where
    by : (b : Bool) → new.ended ≡ b → IfTold (Some before) (ahead_of b new.held (Some left)) (PassesLimit old new) → PassesLimits whole left
    by true e (inl p) = gave-rest ios p.1.0 whole before [] left (count ∙ p.0) s.pieces p.1.1 (over e)
    by true e (inr t) = absurd (let no : true ≡ false = sym e ∙ t.going in cc)
    by false e (inl p) = gave-ended ios p.1.0 whole before new.held left (count ∙ p.0) (s.ends live) (p.1.2 e)
    by false e (inr t) =
        let g = Ends-all ios whole before (new.held ++ left) (s.ends live) t.none in
        gave-byte g.0 whole new.held left g.1 (omega (arith, s.bytes, t.taken, t.most, ap length g.1, length-append g.0 (new.held ++ left))) t.more

-- what is behind a reader is told where the source's bytes are
after-told : (new : Reading) (before left : List ℕ) (P : List ℕ → List ℕ → Type 0) → IfTold (Some before) (ahead new (Some left)) P → (after : List ℕ) × P before after
after-told new before left P l = by new.ended l
  where
    by : (b : Bool) → IfTold (Some before) (ahead_of b new.held (Some left)) P → (after : List ℕ) × P before after
    by true p = ([], p)
    by false p = (new.held ++ left, p)

pub reached-limit : (whole left left' : Option (List ℕ)) (ios : List Piece) (old new : Reading) → length ios ≡ old.pieces → old.ended ≡ false → old.pieces ≤ 100000 → old.taken ≤ 2 ^ 32
    → (IsSome left → IsSome left') → (new.ended ≡ true → IsAtEnd left')
    → IfTold whole (ahead old left) (IsCut ios old) → IfTold (ahead old left) (ahead new left') (PassesLimit old new) → ReachesBy whys.InputLimit whole left' ios
reached-limit whole left left' ios old new count live few short told over s l =
    by whole left left' told over (subst (λ b. IfTold whole (ahead_of b old.held left) (IsCut ios old)) live s) (subst (λ b. IfTold (ahead_of b old.held left) (ahead new left') (PassesLimit old new)) live l)
  where
    by : (whole left left' : Option (List ℕ)) → (IsSome left → IsSome left') → (new.ended ≡ true → IsAtEnd left') → IfTold whole (prepend_known old.held left) (IsCut ios old)
        → IfTold (prepend_known old.held left) (ahead new left') (PassesLimit old new) → ReachesBy whys.InputLimit whole left' ios
    by None left left' told over s l = tt
    by (Some xs) None left' told over s l = absurd s
    by (Some xs) (Some ys) None told over s l = absurd (let no = told refl in cc)
    by (Some xs) (Some ys) (Some zs) told over s l =
        let p = after-told new (old.held ++ ys) zs (PassesLimit old new) l in (
          (limit-within ios old new xs (old.held ++ ys) p.0 count live few short s p.1, limit-gave ios old new xs (old.held ++ ys) zs count live over s l),
          (pieces_of (old.held ++ ys), s.pieces),
        )
