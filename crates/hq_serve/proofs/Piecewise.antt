-- A session has answered one piece more.
use Rattle.std.proofs.Common.{◌≡◌, ◌⊎◌, ℕ, suc, ◌+◌, ◌≤◌, ◌&&◌, Bool, List, [], ◌∷◌, ◌++◌, length, map, Option, Some, None, refl, sym, ◌∙◌, ap, subst, arith, append_assoc}
use Rattle.hq_value.specs.Causes.{RoseBy}
use Rattle.hq_history.specs.declared.noted.Noted.{Noted}
use Rattle.hq_history.specs.History.{entries_of}
use Rattle.hq_io.specs.declared.kind.Kind.{Kind}
use Rattle.hq_io.specs.declared.piece.Piece as given
use Rattle.hq_io.specs.declared.piece.Piece.TheVariants as piece
use Rattle.hq_io.specs.Next.{kind_in, Shows}
use Rattle.hq_io.specs.Pieces as io
use Rattle.hq_io.specs.Reading.{pieces_given}
use Rattle.hq_reply.specs.declared.reply.Reply.{Reply}
use Rattle.hq_transcript.specs.Pieces.{Piece}
use Rattle.hq_transcript.specs.Reading.{piece_of}
use Rattle.hq_transcript.specs.Transcript.{own}
use Rattle.hq_turns.specs.Counts.{Counts, Later, IsCaused}
use Rattle.hq_turns.specs.Ends.{tailed}
use Rattle.hq_session.specs.declared.session.Session.{Session}
use Rattle.hq_session.specs.Keeps.{IsSound, txn_of}
use Rattle.hq_session.specs.Waits.{RowsOfBytes}
use Rattle.hq_serve.specs.Causes.{HaveCauses}
use Rattle.hq_serve.specs.Inputs.{HasAnswered, piece_in}
use Rattle.hq_serve.specs.Running.{Spot, IsWaiting, HasEnded, CanGoOn, next_spot}
use Rattle.hq_serve.specs.Served.{kinds_by}
use Rattle.hq_serve.proofs.Going.{waits-next}
use Rattle.hq_serve.proofs.Rising.{more-replies, more-tails}

-- the piece that is handed in is the one that the reader gave
abbrev pub IsGiven : given.Piece → Kind → List ℕ → Type 0
IsGiven p kind text = (given : io.Piece) × (pieces_given kind text ≡ given ∷ []) × (piece_in p ≡ Some (piece_of given))

of-kind : (p : given.Piece) (text : List ℕ) → Shows p text → length (pieces_given (kind_in p) text) ≡ 1 → IsGiven p (kind_in p) text
of-kind (piece.Statement shown) text s one = (io.statement text, refl, ap (λ t. Some (piece_of (io.statement t))) s)
of-kind piece.TooLong text s one = (io.too_long, refl, refl)
of-kind piece.Unended text s one = (io.unended, refl, refl)
of-kind piece.End text s one = cc
of-kind piece.Limit text s one = cc

pub is-given : (p : given.Piece) (kind : Kind) (text : List ℕ) → kind_in p ≡ kind → Shows p text → length (pieces_given kind text) ≡ 1 → IsGiven p kind text
is-given p kind text e s one =
    subst (λ x. IsGiven p x text) e (of-kind p text s (subst (λ x. length (pieces_given x text) ≡ 1) (sym e) one))

map-push : (xs : List io.Piece) (x : io.Piece) → map piece_of (xs ++ x ∷ []) ≡ map piece_of xs ++ piece_of x ∷ []
map-push [] x = refl
map-push (y ∷ xs) x = ap (λ ys. piece_of y ∷ ys) (map-push xs x)

one-more : (a b : ℕ) → a ≡ b → a + 1 ≡ suc b
one-more a b h = omega (arith, h)

sum-from : (all before own all' own' : ℕ) → all ≡ before + own → own ≡ 0 → all' ≡ before + own' → all' ≡ all + own'
sum-from all before own all' own' h none e = omega (arith, h, none, e)

module _ (file_rows : RowsOfBytes) (nodes k : ℕ) (files seals : Bool) (old new : List Noted) {F Z : Type 0} (s after : Session F Z) (c d : Counts) (m : ℕ) (sound : IsSound (txn_of after)) where
  abbrev told : Bool
  told = files && seals

  -- the same, where this much is known
  pub goes-on : (p : given.Piece) (kind : Kind) (text : List ℕ) (reply : Option Reply) → IsGiven p kind text
      → ((rows : RowsOfBytes) (spot : Spot) → m ≡ spot.end.next → IsWaiting rows nodes k files seals spot old s c
      → HasEnded rows nodes k files seals (record spot { piece = piece_in p }) new after d reply)
      → CanGoOn files seals nodes k m old s c → CanGoOn files seals nodes k (m + 1) new after d
  goes-on p kind text reply is ended (rows, spot, at, w) =
      let h : HasEnded rows nodes k files seals (record spot { piece = Some (piece_of is.0) }) new after d reply =
      subst (λ (x : Option Piece). HasEnded rows nodes k files seals (record spot { piece = x }) new after d reply) is.2 (ended rows spot at w) in (
        rows,
        next_spot rows nodes k told spot new (piece_of is.0) reply d,
        one-more m spot.end.next at,
        waits-next rows nodes k files seals spot (piece_of is.0) new after d reply sound h,
      )

  pub answers-more : (b : Counts) (ios : List io.Piece) (replies : List (Option Reply)) (p : given.Piece) (kind : Kind) (text : List ℕ) (reply : Option Reply) → IsGiven p kind text
      → ((n : ℕ) → c.nodes ≤ n → d.stores n ≡ 0)
      → ((spot : Spot) → m ≡ spot.end.next → IsWaiting file_rows nodes k files seals spot old s c
      → HasEnded file_rows nodes k files seals (record spot { piece = piece_in p }) new after d reply)
      → HasAnswered file_rows nodes k files seals old s b c m ios replies
      → HasAnswered file_rows nodes k files seals new after b d (m + 1) (ios ++ pieces_given kind text) (replies ++ reply ∷ [])
  answers-more b ios replies p kind text reply is beyond ended a =
      let spot : Spot = a.spot in
      let h : HasEnded file_rows nodes k files seals (record spot { piece = Some (piece_of is.0) }) new after d reply =
      subst (λ (x : Option Piece). HasEnded file_rows nodes k files seals (record spot { piece = x }) new after d reply) is.2 (ended spot a.next a.waiting) in
      let later : Later c d = subst (λ (x : Counts). Later x d) a.counts_are h.ended.later in
      record {
        spot = next_spot file_rows nodes k told spot new (piece_of is.0) reply d;
        pieces_are = ap (λ xs. xs ++ piece_of is.0 ∷ []) a.pieces_are ∙ sym (map-push ios is.0) ∙ ap (λ xs. map piece_of (ios ++ xs)) (sym is.1);
        replies_are = ap (λ xs. xs ++ reply ∷ []) a.replies_are;
        counts_are = refl;
        next = one-more m spot.end.next a.next;
        waiting = waits-next file_rows nodes k files seals spot (piece_of is.0) new after d reply sound h;
        causes = more-replies replies (kinds_by k old) (kinds_by k new) b c d a.causes later (tailed (own (entries_of new) k spot.end.next))
            (subst (λ (x : Counts). RoseBy (tailed (own (entries_of new) k spot.end.next)) (x.stores 0) (d.stores 0)) a.counts_are h.ended.tails)
            (sum-from (tailed (kinds_by k old)) spot.tails (tailed (own (entries_of old) k spot.end.next)) (tailed (kinds_by k new)) (tailed (own (entries_of new) k spot.end.next))
            a.waiting.tails (ap tailed a.waiting.entries) h.tails)
            reply beyond (subst (λ (x : Counts). IsCaused x d reply) a.counts_are h.ended.cause);
      }
