-- The replies so far stay, and grow by a piece.
use Rattle.std.proofs.Common.{◌≡◌, ℕ, suc, ◌+◌, ◌<◌, ◌≤◌, Bool, true, false, ◌&&◌, Option, List, [], ◌∷◌, ◌++◌, length, nat_le, ◌==◌, cond, refl, sym, ◌∙◌, ap, subst, inl, inr, arith, append_assoc}
use Rattle.std.proofs.lemmas.List.{append-nil}
use Rattle.std.proofs.lemmas.List.Elements.{filter-append}
use Rattle.hq_value.specs.declared.entry.Entry.{Entry}
use Rattle.hq_reply.specs.declared.reply.Reply.{Reply}
use Rattle.hq_transcript.specs.Pieces.{Piece, piece_at}
use Rattle.hq_value.specs.Tables.{Definition}
use Rattle.hq_transcript.specs.Tables.{Put}
use Rattle.hq_transcript.specs.Binding.{Binder}
use Rattle.hq_transcript.specs.Sights.{Replay, Found, replay, after, after_kind, changed, published, sight_at}
use Rattle.hq_transcript.specs.Step.{Step, begun, AreBacks}
use Rattle.hq_transcript.specs.Transcript.{own, in_order, of_session, Standing, IsStep, behind, at_start, Replied, Transcript}
use Rattle.hq_transcript.proofs.Growth.{later_by, run-push, own-push, run_goes_on, run-next, run-pieces, run-begun, found_by-pieces, replay-push}

both : (a b : Bool) → (a && b) ≡ true → (a ≡ true) × (b ≡ true)
both true b h = (refl, h)
both false b h = cc

in_order-more : (low high : ℕ) (es : List Entry) (e : Entry) → low ≤ high → e.statement ≡ high → in_order low high es ≡ true → in_order low high (es ++ e ∷ []) ≡ true
in_order-more low high [] e le same h = grind (arith, le, same)
in_order-more low high (x ∷ es) e le same h =
    let one : ((nat_le low x.statement && nat_le x.statement high) ≡ true) × (in_order x.statement high es ≡ true) = both (nat_le low x.statement && nat_le x.statement high) (in_order x.statement high es) h in
    let two : (nat_le low x.statement ≡ true) × (nat_le x.statement high ≡ true) = both (nat_le low x.statement) (nat_le x.statement high) one.0 in
    let below : x.statement ≤ high = grind (arith, two.1) in
    λ i. one.0 i && in_order-more x.statement high es e below same one.1 i

in_order-above : (low high above : ℕ) (es : List Entry) → high ≤ above → in_order low high es ≡ true → in_order low above es ≡ true
in_order-above low high above [] le h = refl
in_order-above low high above (x ∷ es) le h =
    let one : ((nat_le low x.statement && nat_le x.statement high) ≡ true) × (in_order x.statement high es ≡ true) = both (nat_le low x.statement && nat_le x.statement high) (in_order x.statement high es) h in
    let two : (nat_le low x.statement ≡ true) × (nat_le x.statement high ≡ true) = both (nat_le low x.statement) (nat_le x.statement high) one.0 in
    let below : nat_le x.statement above ≡ true = grind (arith, two.1, le) in
    λ i. (two.0 i && below i) && in_order-above x.statement high above es le one.1 i

of_session-other : (k : ℕ) (log : List Entry) (e : Entry) → (e.session == k) ≡ false → of_session k (log ++ e ∷ []) ≡ of_session k log
of_session-other k log e other =
    filter-append (λ (x : Entry). x.session == k) log (e ∷ []) ∙ ap (λ c. of_session k log ++ cond c (e ∷ []) []) other ∙ append-nil (of_session k log)

of_session-own : (k : ℕ) (log : List Entry) (e : Entry) → (e.session == k) ≡ true → of_session k (log ++ e ∷ []) ≡ of_session k log ++ e ∷ []
of_session-own k log e same =
    filter-append (λ (x : Entry). x.session == k) log (e ∷ []) ∙ ap (λ c. of_session k log ++ cond c (e ∷ []) []) same

module _ (binds : Binder) (told : Bool) (k : ℕ) where
  -- before the first piece
  pub replied-starts : (r : Replay) (log : List Entry) → of_session k log ≡ [] → Replied binds told k r log [] [] at_start
  replied-starts r log none = (refl, ap (in_order 1 1) none)

  module _ (tables : List Definition) (puts : List Put) (r : Replay) (log : List Entry) (e : Entry) (pieces : List Piece) (replies : List (Option Reply)) (end : Standing) where
    -- an entry of another session changes nothing, whatever it makes or publishes
    pub replied-other : (e.session == k) ≡ false → Replied binds told k r log pieces replies end
        → Replied binds told k (after_kind tables puts (sight_at r e) r e.kind) (log ++ e ∷ []) pieces replies end
    replied-other other (run, order) =
        let counts : end.next ≡ 1 + length pieces = run-next binds told k pieces r log at_start pieces replies end run in (
          run-push binds told k (length pieces + 1) pieces tables puts r e (later_by k (length pieces + 1) e (inl other)) log at_start pieces replies end (omega arith) run,
          ap (in_order 1 end.next) (of_session-other k log e other) ∙ order,
        )

    -- nor does an entry of the statement that runs
    pub replied-own : (e.session == k) ≡ true → e.statement ≡ end.next → Replied binds told k r log pieces replies end
        → Replied binds told k (after_kind tables puts (sight_at r e) r e.kind) (log ++ e ∷ []) pieces replies end
    replied-own same now (run, order) =
        let counts : end.next ≡ 1 + length pieces = run-next binds told k pieces r log at_start pieces replies end run in (
          run-push binds told k end.next pieces tables puts r e (later_by k end.next e (inr (omega (arith, now)))) log at_start pieces replies end (omega (arith, counts)) run,
          ap (in_order 1 end.next) (of_session-own k log e same) ∙ in_order-more 1 end.next (of_session k log) e (omega (arith, counts)) now order,
        )

  -- the session has answered one piece more
  pub replied-piece : (r : Replay) (log : List Entry) (pieces : List Piece) (replies : List (Option Reply)) (end : Standing) (p : Piece) (a : Option Reply)
      → Replied binds told k r log pieces replies end → IsStep binds told k (pieces ++ p ∷ []) r log end p a
      → Replied binds told k r log (pieces ++ p ∷ []) (replies ++ a ∷ []) (behind binds told k (pieces ++ p ∷ []) r log end p a)
  replied-piece r log pieces replies end p a (run, order) step = (
    run_goes_on binds told k (pieces ++ p ∷ []) r log at_start pieces replies end p a
        (run-pieces binds told k pieces p r log at_start pieces replies end (omega arith) (omega arith) run) step,
    in_order-above 1 end.next (suc end.next) (of_session k log) (omega arith) order,
  )

  -- the step may be said over the pieces before it
  pub step-pieces : (r : Replay) (log : List Entry) (pieces : List Piece) (replies : List (Option Reply)) (end : Standing) (p : Piece) (a : Option Reply)
      → Replied binds told k r log pieces replies end → IsStep binds told k pieces r log end p a → IsStep binds told k (pieces ++ p ∷ []) r log end p a
  step-pieces r log pieces replies end p a (run, order) step =
      let counts : end.next ≡ 1 + length pieces = run-next binds told k pieces r log at_start pieces replies end run in
      let before : begun end.state < end.next = run-begun binds told k pieces r log at_start pieces replies end (omega arith) run in
      subst (λ (f : Found). Step binds told f end.state end.lanes p (own log k end.next) a) (sym (found_by-pieces binds k pieces p r (begun end.state) end.next (omega (arith, counts, before)) (omega (arith, counts)))) step

  -- entries of other sessions behind the end change nothing
  module _ (nodes : ℕ) (inputs : ℕ → List Piece) where
    pub ended-others : (log more : List Entry) (pieces : List Piece) (replies : List (Option Reply)) (end : Standing)
        → of_session k more ≡ [] → Replied binds told k (replay binds inputs nodes log) log pieces replies end × AreBacks end.lanes (own log k end.next)
        → Replied binds told k (replay binds inputs nodes (log ++ more)) (log ++ more) pieces replies end × AreBacks end.lanes (own (log ++ more) k end.next)
    ended-others log [] pieces replies end none h =
        subst (λ l. Replied binds told k (replay binds inputs nodes l) l pieces replies end × AreBacks end.lanes (own l k end.next)) (sym (append-nil log)) h
    ended-others log (e ∷ more) pieces replies end none h = by (e.session == k) refl (ended-others (log ++ e ∷ []) more pieces replies end)
      where
        by : (b : Bool) → (e.session == k) ≡ b
            → (of_session k more ≡ [] → Replied binds told k (replay binds inputs nodes (log ++ e ∷ [])) (log ++ e ∷ []) pieces replies end × AreBacks end.lanes (own (log ++ e ∷ []) k end.next)
            → Replied binds told k (replay binds inputs nodes ((log ++ e ∷ []) ++ more)) ((log ++ e ∷ []) ++ more) pieces replies end × AreBacks end.lanes (own ((log ++ e ∷ []) ++ more) k end.next))
            → Replied binds told k (replay binds inputs nodes (log ++ e ∷ more)) (log ++ e ∷ more) pieces replies end × AreBacks end.lanes (own (log ++ e ∷ more) k end.next)
        by true same go = absurd (some_first (ap (λ c. cond c (e ∷ of_session k more) (of_session k more)) (sym same) ∙ none))
          where
            some_first : e ∷ of_session k more ≡ [] → ⊥
            some_first h = cc
        by false other go =
            let rest : of_session k more ≡ [] = ap (λ c. cond c (e ∷ of_session k more) (of_session k more)) (sym other) ∙ none in
            let piece : Option Piece = piece_at e.statement (inputs e.session) in
            let r : Replay = replay binds inputs nodes log in
            let one : Replied binds told k (after binds inputs r e) (log ++ e ∷ []) pieces replies end =
            replied-other (changed binds r.tables piece) (published binds e.session (inputs e.session) r.looks e.statement piece) r log e pieces replies end other h.0 in
            let backs : AreBacks end.lanes (own (log ++ e ∷ []) k end.next) =
            subst (AreBacks end.lanes) (sym (own-push binds told k (suc end.next) pieces r.tables r.puts r e (later_by k (suc end.next) e (inl other)) log end.next (omega arith))) h.1 in
            subst (λ l. Replied binds told k (replay binds inputs nodes l) l pieces replies end × AreBacks end.lanes (own l k end.next)) (append_assoc log (e ∷ []) more)
            (go rest
            (subst (λ x. Replied binds told k x (log ++ e ∷ []) pieces replies end) (sym (replay-push binds inputs nodes log e)) one, backs))

    pub transcript-others : (log more : List Entry) (pieces : List Piece) (bytes : List ℕ) → of_session k more ≡ []
        → Transcript binds told nodes inputs log k pieces bytes → Transcript binds told nodes inputs (log ++ more) k pieces bytes
    transcript-others log more pieces bytes none (replies, (end, replied, backs), text) =
        let h : Replied binds told k (replay binds inputs nodes (log ++ more)) (log ++ more) pieces replies end × AreBacks end.lanes (own (log ++ more) k end.next) =
        ended-others log more pieces replies end none (replied, backs) in
        (replies, (end, h.0, h.1), text)
