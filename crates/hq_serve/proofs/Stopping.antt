-- A session has answered the pieces so far, or goes no further.
use Rattle.std.proofs.Common.{◌≡◌, ◌≢◌, ◌+◌, ◌≤◌, ◌^◌, ℕ, Bool, true, false, List, [], ◌∷◌, ◌++◌, length, Option, None, Some, Result, Ok, Err, IsSome, OnErr, refl, ap, sym, subst, ◌∙◌, arith, length-append}
use Rattle.std.specs.Io.KnownBytes.{IsAtEnd}
use Rattle.hq_history.specs.declared.noted.Noted.{Noted}
use Rattle.hq_io.specs.declared.kind.Kind.{Kind}
use Rattle.hq_io.specs.declared.kind.Kind.TheVariants as kinds
use Rattle.hq_io.specs.Told.{IfTold, WritesPrefix}
use Rattle.hq_io.specs.Pieces.{Piece}
use Rattle.hq_io.specs.Reading.{Reading, ahead, pieces_given, Cuts, Breaks, PassesLimit}
use Rattle.hq_reply.specs.declared.reply.Reply.{Reply}
use Rattle.hq_reply.specs.Texts.{replies_text}
use Rattle.hq_transcript.specs.declared.why.EndWhy.TheVariants as whys
use Rattle.hq_turns.specs.Counts.{Counts}
use Rattle.hq_session.specs.declared.session.Session.{Session}
use Rattle.hq_session.specs.Waits.{RowsOfBytes}
use Rattle.hq_serve.specs.Inputs.{HasAnswered, SoFar, IsLast, text_of}
use Rattle.hq_serve.proofs.Reached.{written-more, written-part, cut-more, reached-end, reached-source, reached-sink, reached-limit, ok_of}

module _ (file_rows : RowsOfBytes) (nodes k : ℕ) (files seals : Bool) {F Z : Type 0} (history : List Noted) (s : Session F Z) (b c : Counts) (m : ℕ)
    (old new : Reading) (whole left left' first now : Option (List ℕ)) (x : SoFar file_rows nodes k files seals history s b c m old whole left first now) where
  -- ---- the reader gave no piece

  pub last-end : new.ended ≡ true → old.pieces ≤ 100000 → new.taken ≤ 2 ^ 32 → ((old.ended ≡ true → IsAtEnd left) → new.ended ≡ true → IsAtEnd left')
      → IfTold (ahead old left) (ahead new left') (Cuts kinds.End old new) → IsLast file_rows nodes k files seals history s b c m whys.End whole left' first now
  last-end over few short none cuts = record {
    ios = x.ios;
    replies = x.replies;
    answered = x.answered;
    written = (replies_text x.replies, x.written, refl);
    reached = reached-end whole (ahead old left) left' x.ios old new over x.count few short (none x.over over) x.cut cuts;
  }

  pub last-source : old.ended ≡ false → IfTold (ahead old left) left' (Breaks old new) → IsLast file_rows nodes k files seals history s b c m whys.SourceFault whole left' first now
  last-source live breaks = record {
    ios = x.ios;
    replies = x.replies;
    answered = x.answered;
    written = (replies_text x.replies, x.written, refl);
    reached = reached-source whole (ahead old left) left' x.ios old new live x.cut breaks;
  }

  pub last-limit : old.ended ≡ false → old.pieces ≤ 100000 → old.taken ≤ 2 ^ 32 → (IsSome left → IsSome left') → (new.ended ≡ true → IsAtEnd left')
      → IfTold (ahead old left) (ahead new left') (PassesLimit old new) → IsLast file_rows nodes k files seals history s b c m whys.InputLimit whole left' first now
  last-limit live few short told over passes = record {
    ios = x.ios;
    replies = x.replies;
    answered = x.answered;
    written = (replies_text x.replies, x.written, refl);
    reached = reached-limit whole left left' x.ios old new x.count live few short told over x.cut passes;
  }

  -- ---- it gave a piece, which was answered

  module _ (kind : Kind) (then' : List Noted) (after : Session F Z) (d : Counts) (next : Option (List ℕ)) {E : Type 0} (result : Result Unit E)
      (one : length (pieces_given kind new.text) ≡ 1) (live : old.ended ≡ false) (counted : new.pieces ≡ old.pieces + length (pieces_given kind new.text))
      (cuts : IfTold (ahead old left) (ahead new left') (Cuts kind old new))
      (text : List ℕ) (same : text ≡ new.text)
      (sent : (reply : Option Reply)
      × HasAnswered file_rows nodes k files seals then' after b d (m + 1) (x.ios ++ pieces_given kind text) (x.replies ++ reply ∷ [])
      × WritesPrefix now next result (text_of reply) × OnErr result (IsSome reply)) where
    answered : (reply : Option Reply)
        × HasAnswered file_rows nodes k files seals then' after b d (m + 1) (x.ios ++ pieces_given kind new.text) (x.replies ++ reply ∷ [])
        × WritesPrefix now next result (text_of reply) × OnErr result (IsSome reply)
    answered = (
      sent.0,
      subst (λ t. HasAnswered file_rows nodes k files seals then' after b d (m + 1) (x.ios ++ pieces_given kind t) (x.replies ++ sent.0 ∷ [])) same sent.1,
      sent.2,
      sent.3,
    )

    pub so-far-more : (u : Unit {0}) → result ≡ ok_of {E = E} u → ((old.ended ≡ true → IsAtEnd left) → new.ended ≡ true → IsAtEnd left')
        → SoFar file_rows nodes k files seals then' after b d (m + 1) new whole left' first next
    so-far-more u ok none = record {
      ios = x.ios ++ pieces_given kind new.text;
      replies = x.replies ++ answered.0 ∷ [];
      answered = answered.1;
      written = written-more first now next x.replies answered.0 u x.written (subst (λ r. WritesPrefix now next r (text_of answered.0)) ok answered.2);
      count = omega (arith, x.count, counted, length-append x.ios (pieces_given kind new.text));
      cut = cut-more whole (ahead old left) (ahead new left') x.ios kind old new live x.cut cuts;
      over = none x.over;
    }

    pub last-sink : (e : E) → result ≡ Err e → IsLast file_rows nodes k files seals then' after b d (m + 1) whys.SinkFault whole left' first next
    last-sink e err = record {
      ios = x.ios ++ pieces_given kind new.text;
      replies = x.replies ++ answered.0 ∷ [];
      answered = answered.1;
      written = written-part first now next x.replies answered.0 result x.written answered.2 (subst (λ r. OnErr r (IsSome answered.0)) err answered.3);
      reached = reached-sink whole (ahead old left) (ahead new left') left' x.ios kind old new one x.cut cuts;
    }
