-- A session so far, one piece more, and how it ends.
use Rattle.std.proofs.Common.{◌≡◌, ◌≢◌, ◌+◌, ◌≤◌, ◌^◌, ℕ, Bool, true, false, List, [], ◌∷◌, ◌++◌, length, take, drop, Option, None, Some, Result, Ok, Err, IfSome, IsSome, ◌⊎◌, ◌<◌, ◌-◌, refl, ap, sym, subst, inl, inr, ◌∙◌, append_assoc, append-nil, arith, length-append, take-append-drop}
use Rattle.std.specs.Io.KnownBytes.{append_known, prepend_known, IsAtEnd}
use Rattle.std.proofs.lemmas.List.Sums.{fold-append}
use Rattle.std.proofs.lemmas.Bool.{cases_lt}
use Rattle.std.proofs.lemmas.List.{length-take-le}
use Rattle.std.proofs.lemmas.Grind.{common_steps}
use Rattle.hq_io.specs.declared.kind.Kind.{Kind}
use Rattle.hq_io.specs.declared.kind.Kind.TheVariants as kinds
use Rattle.hq_io.specs.Told.{IfTold, WritesPrefix}
use Rattle.hq_io.specs.Pieces.{Piece, pieces_of, ended_pieces}
use Rattle.hq_io.specs.Reading.{Reading, ahead, ahead_of, pieces_given, Ends, Cuts, Breaks, PassesLimit}
use Rattle.hq_io.proofs.Given.{Ends-none, Ends-then, Ends-all}
use Rattle.hq_reply.specs.declared.reply.Reply.{Reply}
use Rattle.hq_table.specs.Kept.{TableState}
use Rattle.hq_server.specs.Stands.{Stands}
use Rattle.hq_server.specs.Course.{Moment, Course, text_of, reply_at, going_on, course, pieces_in, Transcript, AnswersKept}
use Rattle.hq_server.specs.Ending.{IsOverLimit, TranscriptGiven, AreFirst, TranscriptWithin, PassesLimits, ServesOnto, Ended, Served}
use Rattle.hq_server.specs.declared.why.EndWhy.TheVariants as whys

abbrev Appends : Option (List ℕ) → Option (List ℕ) → List ℕ → Type 0
Appends old new bytes = new ≡ append_known old bytes

Appends-none : (o : Option (List ℕ)) → Appends o o []
Appends-none None = refl
Appends-none (Some xs) = ap Some (sym (append-nil xs))

append_known-append : (o : Option (List ℕ)) (xs ys : List ℕ) → append_known (append_known o xs) ys ≡ append_known o (xs ++ ys)
append_known-append None xs ys = refl
append_known-append (Some zs) xs ys = ap Some (append_assoc zs xs ys)

Appends-then : (a b c : Option (List ℕ)) (xs ys : List ℕ) → Appends a b xs → Appends b c ys → Appends a c (xs ++ ys)
Appends-then a b c xs ys p q = q ∙ ap (λ o. append_known o ys) p ∙ append_known-append a xs ys

course-push : (ms : List Moment) (m : Moment) → course (ms ++ m ∷ []) ≡ going_on (course ms) m
course-push ms m = fold-append going_on (record { written = []; tables = [] }) ms (m ∷ [])

pieces_in-push : (ms : List Moment) (m : Moment) → pieces_in (ms ++ m ∷ []) ≡ pieces_in ms ++ m.0 ∷ []
pieces_in-push [] m = refl
pieces_in-push (x ∷ ms) m = ap (λ ps. x.0 ∷ ps) (pieces_in-push ms m)

length-pieces_in : (ms : List Moment) → length (pieces_in ms) ≡ length ms
length-pieces_in [] = refl
length-pieces_in (m ∷ ms) = omega (arith, length-pieces_in ms)

serve-fresh : (left given : Option (List ℕ)) → IfTold left (prepend_known [] left) (Served given given [] (record { held = []; ended = false; text = []; pieces = 0; taken = 0 }))
serve-fresh None given = tt
serve-fresh (Some xs) given = record { moments = []; written = Appends-none given; stands = tt; pieces = refl; count = refl; bytes = omega arith; ends = λ _. Ends-none xs }

pub serve-new : (left given : Option (List ℕ)) (kept : List TableState) (reader : Reading) → kept ≡ [] → reader ≡ record { held = []; ended = false; text = []; pieces = 0; taken = 0 } → IfTold left (ahead reader left) (Served given given kept reader)
serve-new left given kept reader t e = rw (e, t) (serve-fresh left given)

-- the one piece that an answer other than the end and the limit gives
abbrev Given : Kind → List ℕ → Type 0
Given kind text = (piece : Piece) × (pieces_given kind text ≡ piece ∷ [])

pub one-piece : (kind : Kind) (text : List ℕ) → kind ≢ kinds.End → kind ≢ kinds.Limit → Given kind text
one-piece kinds.Statement text e l = (_, refl)
one-piece kinds.TooLong text e l = (_, refl)
one-piece kinds.Unended text e l = (_, refl)
one-piece kinds.End text e l = absurd (e refl)
one-piece kinds.Limit text e l = absurd (l refl)

-- a piece that was answered, as a moment behind others
abbrev Behind : List Moment → Piece → Option Reply → List TableState → Type 0
Behind ms piece reply kept' = (missed : Bool) × (reply ≡ reply_at (course ms) (piece, missed)) × Stands kept' (course (ms ++ (piece, missed) ∷ [])).tables

behind : (ms : List Moment) (piece : Piece) (kept kept' : List TableState) (reply : Option Reply) → Stands kept (course ms).tables → AnswersKept (piece ∷ []) kept reply kept' → Behind ms piece reply kept'
behind ms piece kept kept' reply stands answered =
    let a = answered (course ms).tables stands in
    (a.1.0, a.1.1, subst (Stands kept') (a.1.2 ∙ ap (λ (c : Course). c.tables) (sym (course-push ms (piece, a.1.0)))) a.2)

written-push : (ms : List Moment) (m : Moment) → (course (ms ++ m ∷ [])).written ≡ (course ms).written ++ text_of (reply_at (course ms) m)
written-push ms m = ap (λ (c : Course). c.written) (course-push ms m)

more-told : (first now next : Option (List ℕ)) (kept kept' : List TableState) (kind : Kind) (old new : Reading) (whole before after : List ℕ) (piece : Piece) (reply : Option Reply)
    → pieces_given kind new.text ≡ piece ∷ [] → old.ended ≡ false → new.pieces ≡ old.pieces + length (pieces_given kind new.text)
    → AnswersKept (piece ∷ []) kept reply kept' → Appends now next (text_of reply)
    → Served first now kept old whole before → Cuts kind old new before after → Served first next kept' new whole after
more-told first now next kept kept' kind old new whole before after piece reply one live counted answered wrote s c =
    let b = behind s.moments piece kept kept' reply s.stands answered in
    let m : Moment = (piece, b.0) in
    let given : pieces_given kind new.text ≡ piece ∷ [] = one in
    let ps : pieces_in (s.moments ++ m ∷ []) ≡ pieces_in s.moments ++ piece ∷ [] = pieces_in-push s.moments m in
    record {
      moments = s.moments ++ m ∷ [];
      written = Appends-then first now next (course s.moments).written (text_of reply) s.written wrote ∙ ap (λ t. append_known first ((course s.moments).written ++ t)) (ap text_of b.1) ∙ ap (append_known first) (sym (written-push s.moments m));
      stands = b.2;
      pieces = s.pieces ∙ ap (λ r. pieces_in s.moments ++ r) (c.pieces ∙ ap (λ g. g ++ pieces_of after) given) ∙ sym (append_assoc (pieces_in s.moments) (piece ∷ []) (pieces_of after)) ∙ ap (λ r. r ++ pieces_of after) (sym ps);
      count = omega (arith, length-append s.moments (m ∷ []), s.count, counted, ap length given);
      bytes = omega (arith, s.bytes, c.taken);
      ends = λ going. subst (λ r. Ends r whole after) (sym ps) (Ends-then (pieces_in s.moments) (piece ∷ []) whole before after (s.ends live) (subst (λ g. Ends g before after) given (c.ended going)));
    }

pub serve-more : (whole a b first now next : Option (List ℕ)) (kept kept' : List TableState) (kind : Kind) (old new : Reading) (reply : Option Reply)
    → kind ≢ kinds.End → kind ≢ kinds.Limit → old.ended ≡ false → new.pieces ≡ old.pieces + length (pieces_given kind new.text)
    → AnswersKept (pieces_given kind new.text) kept reply kept' → Appends now next (text_of reply)
    → IfTold whole a (Served first now kept old) → IfTold a b (Cuts kind old new) → IfTold whole b (Served first next kept' new)
serve-more None a b first now next kept kept' kind old new reply e l live p w v s c = tt
serve-more (Some xs) None b first now next kept kept' kind old new reply e l live p w v s c = absurd s
serve-more (Some xs) (Some ys) None first now next kept kept' kind old new reply e l live p w v s c = absurd c
serve-more (Some xs) (Some ys) (Some zs) first now next kept kept' kind old new reply e l live p w v s c =
    let one = one-piece kind new.text e l in
    more-told first now next kept kept' kind old new xs ys zs one.0 reply one.1 live p (subst (λ g. AnswersKept g kept reply kept') one.1 w) v s c

-- the bytes of the replies so far
abbrev Written : List Moment → List ℕ
Written moments = (course moments).written

-- the input was read to its end
end-told : (first now : Option (List ℕ)) (kept : List TableState) (old new : Reading) (whole before : List ℕ) (s : Served first now kept old whole before) → Cuts kinds.End old new before [] → Transcript (pieces_of whole) (Written s.moments)
end-told first now kept old new whole before s c =
    (s.moments, sym (s.pieces ∙ ap (λ r. pieces_in s.moments ++ r) c.pieces ∙ append-nil (pieces_in s.moments)), refl)

end-within : (first now : Option (List ℕ)) (kept : List TableState) (old new : Reading) (whole before : List ℕ) → old.pieces ≤ 100000 → new.taken ≤ 2 ^ 32 → Served first now kept old whole before → Cuts kinds.End old new before [] → IsOverLimit whole → ⊥
end-within first now kept old new whole before few short s c (inl more) =
    omega (arith, more, few, s.count, length-pieces_in s.moments, ap length s.pieces, length-append (pieces_in s.moments) (pieces_of before), ap length c.pieces)
end-within first now kept old new whole before few short s c (inr more) = omega (arith, more, short, s.bytes, c.taken)

ahead-over : (reader : Reading) (left : Option (List ℕ)) → reader.ended ≡ true → ahead reader left ≡ Some []
ahead-over reader left e = rw e refl

pub Ended-end : (whole a left left' first now : Option (List ℕ)) (kept : List TableState) (old new : Reading) → new.ended ≡ true → old.pieces ≤ 100000 → new.taken ≤ 2 ^ 32
    → IfTold whole a (Served first now kept old) → IfTold a (ahead new left') (Cuts kinds.End old new) → Ended whys.End whole left first now
Ended-end whole a left left' first now kept old new over few short s c = record {
  served = by whole a s (subst (λ o. IfTold a o (Cuts kinds.End old new)) (ahead-over new left' over) c);
  memory = λ e. absurd (cc);
}
  where
    by : (whole a : Option (List ℕ)) → IfTold whole a (Served first now kept old) → IfTold a (Some []) (Cuts kinds.End old new) → IfSome whole (ServesOnto whys.End left first now)
    by None a s c = tt
    by (Some xs) None s c = absurd s
    by (Some xs) (Some ys) s c = (Written s.moments, s.written, (end-told first now kept old new xs ys s c, end-within first now kept old new xs ys few short s c))

source-told : (first now : Option (List ℕ)) (kept : List TableState) (old new : Reading) (whole before after : List ℕ) → old.ended ≡ false → (s : Served first now kept old whole before) → Breaks old new before after → TranscriptGiven (Written s.moments) whole after
source-told first now kept old new whole before after live s b =
    let g = Ends-all (pieces_in s.moments) whole before after (s.ends live) b.none in
    (g.0, g.1, (s.moments, sym g.2, refl))

pub Ended-source : (whole a left first now : Option (List ℕ)) (kept : List TableState) (old new : Reading) → old.ended ≡ false → IfTold whole a (Served first now kept old) → IfTold a left (Breaks old new) → Ended whys.SourceFault whole left first now
Ended-source whole a left first now kept old new live s b = record {
  served = by whole a left s b;
  memory = λ e. absurd (cc);
}
  where
    by : (whole a left : Option (List ℕ)) → IfTold whole a (Served first now kept old) → IfTold a left (Breaks old new) → IfSome whole (ServesOnto whys.SourceFault left first now)
    by None a left s b = tt
    by (Some xs) None left s b = absurd s
    by (Some xs) (Some ys) None s b = absurd b
    by (Some xs) (Some ys) (Some zs) s b = (Written s.moments, s.written, source-told first now kept old new xs ys zs live s b)

-- the first items of a list that goes on behind others
first-behind : {X : Type 0} (most : ℕ) (front rest : List X) → length front ≤ most → (back : List X) × AreFirst most (front ++ rest) (front ++ back)
first-behind {X} most front rest short = by (most - length front) (omega (arith, short)) (cases_lt (length rest) (most - length front))
  where
    by : (n : ℕ) → length front + n ≡ most → (length rest < n) ⊎ (n ≤ length rest) → (back : List X) × AreFirst most (front ++ rest) (front ++ back)
    by n is (inl less) = (rest, record { more = []; parts = sym (append-nil (front ++ rest)); most_or_all = inr (refl, omega (arith, is, less, length-append front rest)) })
    by n is (inr enough) = (
      take n rest,
      record {
        more = drop n rest;
        parts = ap (λ r. front ++ r) (sym (take-append-drop n rest)) ∙ sym (append_assoc front (take n rest) (drop n rest));
        most_or_all = inl (omega (arith, is, length-append front (take n rest), length-take-le n rest enough));
      },
    )

-- the pieces so far are those that ended within both limits
limit-within : (first now : Option (List ℕ)) (kept : List TableState) (old new : Reading) (whole before after : List ℕ) → old.ended ≡ false → old.pieces ≤ 100000 → old.taken ≤ 2 ^ 32 → (s : Served first now kept old whole before) → PassesLimit old new before after → TranscriptWithin whole (Written s.moments)
limit-within first now kept old new whole before after live few short s (inl p) =
    let e = s.ends live in
    let f = first-behind (2 ^ 32) e.bytes before (omega (arith, s.bytes, short, ap length e.taken, length-append e.bytes before)) in
    record {
      within = e.bytes ++ f.0;
      first_bytes = subst (λ w. AreFirst (2 ^ 32) w (e.bytes ++ f.0)) (sym e.taken) f.1;
      pieces = pieces_in s.moments;
      first_pieces = record { more = ended_pieces f.0; parts = e.ended f.0; most_or_all = inl (length-pieces_in s.moments ∙ s.count ∙ p.0) };
      transcript = (s.moments, refl, refl);
    }
limit-within first now kept old new whole before after live few short s (inr t) =
    let g = Ends-all (pieces_in s.moments) whole before after (s.ends live) t.none in
    record {
      within = g.0;
      first_bytes = record { more = after; parts = g.1; most_or_all = inl (omega (arith, s.bytes, t.taken, t.most, ap length g.1, length-append g.0 after)) };
      pieces = pieces_in s.moments;
      first_pieces = record { more = []; parts = g.2 ∙ sym (append-nil (pieces_in s.moments)); most_or_all = inr (refl, omega (arith, length-pieces_in s.moments, s.count, few)) };
      transcript = (s.moments, refl, refl);
    }

-- a piece past the last one ended in what the source gave
gave-ended : (pieces : List Piece) (piece : Piece) (whole before held left : List ℕ) → length pieces ≡ 100000 → Ends pieces whole before → Ends (piece ∷ []) before (held ++ left) → PassesLimits whole left
gave-ended pieces piece whole before held left many p q =
    let e = Ends-then pieces (piece ∷ []) whole before (held ++ left) p q in (
      e.bytes ++ held,
      e.taken ∙ sym (append_assoc e.bytes held left),
      inl (omega (arith, many, ap length (e.ended held), length-append (pieces ++ piece ∷ []) (ended_pieces held), length-append pieces (piece ∷ []))),
    )

-- it is the rest of all that the source had
gave-rest : (pieces : List Piece) (piece : Piece) (whole before after left : List ℕ) → length pieces ≡ 100000 → pieces_of whole ≡ pieces ++ pieces_of before → pieces_of before ≡ piece ∷ pieces_of after → left ≡ [] → PassesLimits whole left
gave-rest pieces piece whole before after left many all more none = (
  whole,
  sym (ap (λ l. whole ++ l) none ∙ append-nil whole),
  inr (inl (none, omega (arith, many, ap length all, length-append pieces (pieces_of before), ap length more))),
)

-- a byte more was read
gave-byte : (given whole held left : List ℕ) → whole ≡ given ++ (held ++ left) → length given ≡ 2 ^ 32 → 0 < length held → PassesLimits whole left
gave-byte given whole held left is most more = (given ++ held, is ∙ sym (append_assoc given held left), inr (inr (omega (arith, most, more, length-append given held))))

-- what the source gave passes a limit, by whether the reader came to the end
limit-gave : (first now : Option (List ℕ)) (kept : List TableState) (old new : Reading) (whole before left : List ℕ) → old.ended ≡ false → (new.ended ≡ true → left ≡ []) → (s : Served first now kept old whole before) → IfTold (Some before) (ahead new (Some left)) (PassesLimit old new) → PassesLimits whole left
limit-gave first now kept old new whole before left live over s l = by new.ended refl l
  where
    many : old.pieces ≡ 100000 → length (pieces_in s.moments) ≡ 100000
    many e = length-pieces_in s.moments ∙ s.count ∙ e

    by : (b : Bool) → new.ended ≡ b → IfTold (Some before) (ahead_of b new.held (Some left)) (PassesLimit old new) → PassesLimits whole left
    by true e (inl p) = gave-rest (pieces_in s.moments) p.1.0 whole before [] left (many p.0) s.pieces p.1.1 (over e)
    by true e (inr t) = absurd (let no : true ≡ false = sym e ∙ t.going in cc)
    by false e (inl p) = gave-ended (pieces_in s.moments) p.1.0 whole before new.held left (many p.0) (s.ends live) (p.1.2 e)
    by false e (inr t) =
        let g = Ends-all (pieces_in s.moments) whole before (new.held ++ left) (s.ends live) t.none in
        gave-byte g.0 whole new.held left g.1 (omega (arith, s.bytes, t.taken, t.most, ap length g.1, length-append g.0 (new.held ++ left))) t.more

-- what is behind a reader is told where the source's bytes are
after-told : (new : Reading) (before left : List ℕ) (P : List ℕ → List ℕ → Type 0) → IfTold (Some before) (ahead new (Some left)) P → (after : List ℕ) × P before after
after-told new before left P l = by new.ended l
  where
    by : (b : Bool) → IfTold (Some before) (ahead_of b new.held (Some left)) P → (after : List ℕ) × P before after
    by true p = ([], p)
    by false p = (new.held ++ left, p)

pub Ended-limit : (whole left left' first now : Option (List ℕ)) (kept : List TableState) (old new : Reading) → old.ended ≡ false → old.pieces ≤ 100000 → old.taken ≤ 2 ^ 32 → (IsSome left → IsSome left') → (new.ended ≡ true → IsAtEnd left')
    → IfTold whole (ahead old left) (Served first now kept old) → IfTold (ahead old left) (ahead new left') (PassesLimit old new) → Ended whys.InputLimit whole left' first now
Ended-limit whole left left' first now kept old new live few short told over s l = record {
  served = by whole left left' told over (subst (λ b. IfTold whole (ahead_of b old.held left) (Served first now kept old)) live s) (subst (λ b. IfTold (ahead_of b old.held left) (ahead new left') (PassesLimit old new)) live l);
  memory = λ e. absurd (cc);
}
  where
    by : (whole left left' : Option (List ℕ)) → (IsSome left → IsSome left') → (new.ended ≡ true → IsAtEnd left') → IfTold whole (prepend_known old.held left) (Served first now kept old) → IfTold (prepend_known old.held left) (ahead new left') (PassesLimit old new) → IfSome whole (ServesOnto whys.InputLimit left' first now)
    by None left left' told over s l = tt
    by (Some xs) None left' told over s l = absurd s
    by (Some xs) (Some ys) None told over s l = absurd (let no = told refl in cc)
    by (Some xs) (Some ys) (Some zs) told over s l =
        let p = after-told new (old.held ++ ys) zs (PassesLimit old new) l in
        (Written s.moments, s.written, (limit-within first now kept old new xs (old.held ++ ys) p.0 live few short s p.1, limit-gave first now kept old new xs (old.held ++ ys) zs live over s l))

-- a reply of which a prefix was written
part-told : {E : Type 0} (left first now next : Option (List ℕ)) (kept kept' : List TableState) (kind : Kind) (old new : Reading) (whole before after : List ℕ) (piece : Piece) (reply : Option Reply) (result : Result Unit E)
    → pieces_given kind new.text ≡ piece ∷ [] → AnswersKept (piece ∷ []) kept reply kept' → WritesPrefix now next result (text_of reply)
    → Served first now kept old whole before → Cuts kind old new before after → ServesOnto whys.SinkFault left first next whole
part-told left first now next kept kept' kind old new whole before after piece reply result one answered w s c =
    let b = behind s.moments piece kept kept' reply s.stands answered in
    let part : List ℕ = take w.count (text_of reply) in (
      Written s.moments ++ part,
      Appends-then first now next (Written s.moments) part s.written w.appended,
      record {
        before = s.moments;
        last = (piece, b.0);
        later = pieces_of after;
        pieces_are = s.pieces ∙ ap (λ r. pieces_in s.moments ++ r) (c.pieces ∙ ap (λ g. g ++ pieces_of after) one);
        prefix = part;
        rest = drop w.count (text_of reply);
        reply = ap text_of (sym b.1) ∙ sym (take-append-drop w.count (text_of reply));
        written = refl;
      },
    )

pub Ended-sink : {E : Type 0} (whole a b left first now next : Option (List ℕ)) (kept kept' : List TableState) (kind : Kind) (old new : Reading) (reply : Option Reply) (result : Result Unit E)
    → kind ≢ kinds.End → kind ≢ kinds.Limit → AnswersKept (pieces_given kind new.text) kept reply kept' → WritesPrefix now next result (text_of reply)
    → IfTold whole a (Served first now kept old) → IfTold a b (Cuts kind old new) → Ended whys.SinkFault whole left first next
Ended-sink whole a b left first now next kept kept' kind old new reply result e l w v s c = record {
  served = by whole a b s c;
  memory = λ e. absurd (cc);
}
  where
    by : (whole a b : Option (List ℕ)) → IfTold whole a (Served first now kept old) → IfTold a b (Cuts kind old new) → IfSome whole (ServesOnto whys.SinkFault left first next)
    by None a b s c = tt
    by (Some xs) None b s c = absurd s
    by (Some xs) (Some ys) None s c = absurd c
    by (Some xs) (Some ys) (Some zs) s c =
        let one = one-piece kind new.text e l in
        part-told left first now next kept kept' kind old new xs ys zs one.0 reply result one.1 (subst (λ g. AnswersKept g kept reply kept') one.1 w) v s c

pub Ended-memory : (whole first : Option (List ℕ)) → Ended whys.NoMemory whole whole first first
Ended-memory whole first = record {
  served = by whole;
  memory = λ _. (refl, refl);
}
  where
    by : (whole : Option (List ℕ)) → IfSome whole (ServesOnto whys.NoMemory whole first first)
    by None = tt
    by (Some xs) = ([], Appends-none first, (refl, refl))

-- a reader that gave another answer than the end has not ended
pub live-by : {E : Type 0} (ended : Bool) (result : Result Kind E) → (ended ≡ true → result ≡ Ok kinds.End) → result ≢ Ok kinds.End → ended ≡ false
live-by true result over other = absurd (other (over refl))
live-by false result over other = refl

take-whole : (n : ℕ) (xs : List ℕ) → n ≡ length xs → take n xs ≡ xs
take-whole n xs e = grind (arith, common_steps)

abbrev ok_of : {E : Type 0} → Unit {0} → Result Unit E
ok_of u = Ok u

-- a write that succeeded wrote all
pub writes-all : {E : Type 0} (now next : Option (List ℕ)) (u : Unit {0}) (bytes : List ℕ) → WritesPrefix now next (ok_of {E = E} u) bytes → Appends now next bytes
writes-all now next u bytes w = w.appended ∙ ap (append_known now) (take-whole w.count bytes w.whole)

pub no-end : {E : Type 0} (kind : Kind) → kind ≢ kinds.End → ◌≡◌ {A = Result Kind E} (Ok kind) (Ok kinds.End) → ⊥
no-end {E} kind n e = n (ap (kind_or {E = E} kind) e)
  where
    kind_or : {E : Type 0} → Kind → Result Kind E → Kind
    kind_or k (Ok j) = j
    kind_or k (Err f) = k
