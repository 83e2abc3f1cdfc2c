-- Lanes in hand that were cut, or could not be sealed, and what an answer leaves of them.
use Rattle.std.proofs.Common.{◌≡◌, ◌⊎◌, inl, inr, ◌<◌, ℕ, zero, suc, ◌&&◌, Bool, true, false, List, [], ◌∷◌, ◌++◌, length, take, drop, Some, refl, sym, ◌∙◌, ap, subst, arith, IsTrue, slice_get}
use Rattle.std.specs.List.{list_any}
use Rattle.std.proofs.lemmas.Bool.{cases_order}
use Rattle.std.proofs.lemmas.List.Elements.{All-nil}
use Rattle.hq_value.specs.declared.entry.EntryKind.{EntryKind}
use Rattle.hq_value.specs.Tables.{Definition}
use Rattle.hq_log.specs.declared.place.Place.{Place}
use Rattle.hq_log.specs.declared.place.Place.TheVariants.{Out}
use Rattle.hq_log.specs.Places.{is_swept_by}
use Rattle.hq_log.specs.Pools.{pool, places_after}
use Rattle.hq_lane.specs.BucketFiles.{BucketState, file_bytes, base_bytes, own_bytes, KeepsBase, KeepsBytes, IsTornBack}
use Rattle.hq_lane.specs.Lanes.{LaneState, EachFile, HaveNoSeal, file_of, id_of}
use Rattle.hq_clean.specs.Sweeps.{Swept, is_clean, is_stopped}
use Rattle.hq_history.specs.declared.noted.Noted.{Noted}
use Rattle.hq_history.specs.declared.noted.Deposit.{Deposit}
use Rattle.hq_history.specs.History.{entries_of}
use Rattle.hq_history.specs.Deposits.{tables_left, length_left, bytes_left}
use Rattle.hq_catalog.specs.declared.ask.Ask.{Ask}
use Rattle.hq_catalog.specs.declared.ask.Ask.TheVariants as ask
use Rattle.hq_catalog.specs.Files.{def_at, FitBytes, GoTo}
use Rattle.hq_catalog.specs.Asks.{lane_at}
use Rattle.hq_catalog.specs.CatStep.{noted}
use Rattle.hq_catalog.proofs.Others.{entries-append, pool-push}
use Rattle.hq_txn.specs.Transactions.{IsUnsealed}
use Rattle.hq_turns.specs.Held.{slot_of}
use Rattle.hq_turns.specs.Hand.{InHand, IsLawful}
use Rattle.hq_turns.proofs.Hands.{may-back}

-- ---- lanes that changed in their places

-- the lane's committed bytes stay, and behind them are those that were, or none
pub record StaysInHand (files : Bool) (old new : LaneState) : Type 0 where
  pub table : new.table ≡ old.table
  pub number : new.number ≡ old.number
  pub base : (b : ℕ) → b < 16 → (file_of new.files b).base ≡ (file_of old.files b).base
  pub bytes : IsTrue files → (b : ℕ) → b < 16 → base_bytes (file_of new.files b) ≡ base_bytes (file_of old.files b)
  pub own : IsTrue files → (b : ℕ) → b < 16 → (own_bytes (file_of new.files b) ≡ own_bytes (file_of old.files b)) ⊎ (own_bytes (file_of new.files b) ≡ [])

both : (a b : Bool) → IsTrue (a && b) → IsTrue a
both true b h = refl
both false b h = cc

go-none : (keys : List ℕ) (b : ℕ) → GoTo keys b []
go-none [] b = tt
go-none (key ∷ keys) b = All-nil _

fit-none : (def : Definition) (b : ℕ) → FitBytes def b []
fit-none def b = record { columns = 0; within = omega arith; rows = []; file = ([], tt, refl, refl); bucket = go-none def.keys b }

fit-own : (def : Definition) (b : ℕ) (old new : List ℕ) → (new ≡ old) ⊎ (new ≡ []) → FitBytes def b old → FitBytes def b new
fit-own def b old new (inl e) f = subst (λ (bytes : List ℕ). FitBytes def b bytes) (sym e) f
fit-own def b old new (inr e) f = subst (λ (bytes : List ℕ). FitBytes def b bytes) (sym e) (fit-none def b)

module _ (files seals : Bool) (k : ℕ) (history : List Noted) where
  module _ (old new : List LaneState) (x : InHand files seals k history old) (count : length new ≡ length old)
      (same : (i : ℕ) → i < length old → StaysInHand files (lane_at old i) (lane_at new i)) where
    there : (i : ℕ) → i < length new → i < length old
    there i h = omega (arith, h, count)

    ids : (i b : ℕ) → i < length new → id_of (lane_at new i).table (lane_at new i).number b ≡ id_of (lane_at old i).table (lane_at old i).number b
    ids i b h =
        ap (λ t. id_of t (lane_at new i).number b) (same i (there i h)).table ∙ ap (λ n. id_of (lane_at old i).table n b) (same i (there i h)).number

    pub hand-changed : InHand files seals k history new
    hand-changed = record {
      out = λ i h. subst (λ t. slice_get (pool (entries_of history) t) (lane_at new i).number ≡ Some (Out k)) (sym (same i (there i h)).table)
          (subst (λ n. slice_get (pool (entries_of history) (lane_at old i).table) n ≡ Some (Out k)) (sym (same i (there i h)).number) (x.out i (there i h)));
      made = λ i h. subst (λ t. t < length (tables_left history)) (sym (same i (there i h)).table) (x.made i (there i h));
      agrees = λ i h. record {
        base = λ b lt. (same i (there i h)).base b lt ∙ (x.agrees i (there i h)).base b lt ∙ ap (length_left history) (sym (ids i b h));
        bytes = λ t b lt. (same i (there i h)).bytes (both files seals t) b lt ∙ (x.agrees i (there i h)).bytes t b lt ∙ ap (bytes_left history) (sym (ids i b h));
      };
      fit = λ i h told b lt. subst (λ t. FitBytes (def_at history t) b (own_bytes (file_of (lane_at new i).files b))) (sym (same i (there i h)).table)
          (fit-own (def_at history (lane_at old i).table) b (own_bytes (file_of (lane_at old i).files b)) (own_bytes (file_of (lane_at new i).files b))
          ((same i (there i h)).own told b lt) (x.fit i (there i h) told b lt));
      apart = λ i j h g e. x.apart i j (there i h) (there j g) (sym (same i (there i h)).table ∙ e ∙ (same j (there j g)).table);
      all = λ t n at. let h = x.all t n at in
          (h.0, omega (arith, h.1, count), (same h.0 h.1).table ∙ h.2, (same h.0 h.1).number ∙ h.3);
      none_swept = x.none_swept;
    }

-- ---- lanes that could not be sealed

stays-same : (files : Bool) (lane : LaneState) → StaysInHand files lane lane
stays-same files lane = record { table = refl; number = refl; base = λ b lt. refl; bytes = λ t b lt. refl; own = λ t b lt. inl refl }

base-kept : (files : Bool) (old new : BucketState) → KeepsBytes files old new → IsTrue files → base_bytes new ≡ base_bytes old
base-kept files old new k told = ap (λ b. take b (file_bytes new.file)) k.base ∙ ap (λ f. take old.base f) (k.bytes told)

own-kept : (files : Bool) (old new : BucketState) → KeepsBytes files old new → IsTrue files → own_bytes new ≡ own_bytes old
own-kept files old new k told =
    ap (λ b. drop b (take new.good (file_bytes new.file))) k.base ∙ ap (λ g. drop old.base (take g (file_bytes new.file))) k.good
    ∙ ap (λ f. drop old.base (take old.good f)) (k.bytes told)

stays-unsealed : (files : Bool) (old new : LaneState) → IsUnsealed files old new → StaysInHand files old new
stays-unsealed files old new u = record {
  table = u.table;
  number = u.number;
  base = λ b lt. (u.files b lt).base;
  bytes = λ told b lt. base-kept files (file_of old.files b) (file_of new.files b) (u.files b lt) told;
  own = λ told b lt. inl (own-kept files (file_of old.files b) (file_of new.files b) (u.files b lt) told);
}

pub hand-unsealed : (files seals : Bool) (k : ℕ) (history : List Noted) (old new : List LaneState) → InHand files seals k history old → length new ≡ length old
    → ((n : ℕ) → n < length old → IsUnsealed files (lane_at old n) (lane_at new n)) → InHand files seals k history new
hand-unsealed files seals k history old new x count each =
    hand-changed files seals k history old new x count (λ i h. stays-unsealed files (lane_at old i) (lane_at new i) (each i h))

-- ---- a lane that was cut

drop-same : (n : ℕ) (xs : List ℕ) → drop n (take n xs) ≡ []
drop-same zero xs = refl
drop-same (suc n) [] = refl
drop-same (suc n) (x ∷ xs) = drop-same n xs

own-none : (p : BucketState) (n : ℕ) → p.good ≡ n → p.base ≡ n → own_bytes p ≡ []
own-none p n good base =
    ap (λ g. drop p.base (take g (file_bytes p.file))) good ∙ ap (λ b. drop b (take n (file_bytes p.file))) base ∙ drop-same n (file_bytes p.file)

own-cut : (files : Bool) (rose : Type 0) (old new : List BucketState) → Swept files old new rose → (b : ℕ) → b < 16
    → (own_bytes (file_of new b) ≡ own_bytes (file_of old b)) ⊎ (own_bytes (file_of new b) ≡ [])
own-cut files rose old new (is_clean cut clean) b lt = inr (own-none (file_of new b) (file_of old b).base (cut b lt).good (cut b lt).base)
own-cut files rose old new (is_stopped s cause) b lt = by (cases_order b s.bucket)
  where
    torn : IsTornBack files (file_of old b) (file_of new b) → own_bytes (file_of new b) ≡ []
    torn t = own-none (file_of new b) (file_of old b).base t.good t.base

    by : (b ≡ s.bucket) ⊎ ((b < s.bucket) ⊎ (s.bucket < b)) → (own_bytes (file_of new b) ≡ own_bytes (file_of old b)) ⊎ (own_bytes (file_of new b) ≡ [])
    by (inl e) = inr (torn (subst (λ n. IsTornBack files (file_of old n) (file_of new n)) (sym e) s.failed))
    by (inr (inl l)) = inr (own-none (file_of new b) (file_of old b).base (s.before b l).good (s.before b l).base)
    by (inr (inr g)) = inl (ap own_bytes (s.behind b g))

stays-cut : (files : Bool) (rose : Type 0) (old new : LaneState) → new ≡ record old { files = new.files } → EachFile (KeepsBase files) old.files new.files
    → Swept files old.files new.files rose → StaysInHand files old new
stays-cut files rose old new e kept cut = record {
  table = ap (λ (l : LaneState). l.table) e;
  number = ap (λ (l : LaneState). l.number) e;
  base = λ b lt. (kept b lt).base;
  bytes = λ told b lt. (kept b lt).bytes told;
  own = λ told b lt. own-cut files rose old.files new.files cut b lt;
}

pub same-slot : (old new : LaneState) → new ≡ record old { files = new.files } → slot_of new ≡ slot_of old
same-slot old new e = ap slot_of e

module _ (files seals : Bool) (k : ℕ) (history : List Noted) (first lane : LaneState) (rest : List LaneState) (rose : Type 0)
    (x : InHand files seals k history (first ∷ rest)) (e : lane ≡ record first { files = lane.files }) (kept : EachFile (KeepsBase files) first.files lane.files)
    (cut : Swept files first.files lane.files rose) where
  stays-at : (i : ℕ) → StaysInHand files (lane_at (first ∷ rest) i) (lane_at (lane ∷ rest) i)
  stays-at zero = stays-cut files rose first lane e kept cut
  stays-at (suc i) = stays-same files (lane_at rest i)

  pub hand-cut : InHand files seals k history (lane ∷ rest)
  hand-cut = hand-changed files seals k history (first ∷ rest) (lane ∷ rest) x refl (λ i h. stays-at i)

  -- it may go back
  pub lawful-back : {F Z : Type 0} (nodes : ℕ) (a : Ask F Z) → a ≡ ask.Back lane → HaveNoSeal first.files → IsLawful files seals nodes k history a rest
  lawful-back {F} {Z} nodes a is none =
      subst (λ (b : Ask F Z). IsLawful files seals nodes k history b rest) (sym is)
      (record { may = may-back files seals k history first lane rest x (same-slot first lane e) kept none; hand = hand-cut })

-- ---- entries that move no lane, where none is in hand

pool-at : (before : List Noted) (n : Noted) (t : ℕ) → pool (entries_of (before ++ n ∷ [])) t ≡ places_after t (pool (entries_of before) t) n.entry.session n.entry.kind
pool-at before n t = ap (λ log. pool log t) (entries-append before (n ∷ [])) ∙ pool-push (entries_of before) n.entry t

pub hand-empty : (files seals : Bool) (k m : ℕ) (before : List Noted) (kind : EntryKind) (d : Deposit)
    → ((t : ℕ) (places : List Place) → places_after t places k kind ≡ places) → InHand files seals k before [] → InHand files seals k (before ++ noted k m kind d ∷ []) []
hand-empty files seals k m before kind d same x = record {
  out = λ i h. absurd (omega (arith, h));
  made = λ i h. absurd (omega (arith, h));
  agrees = λ i h. absurd (omega (arith, h));
  fit = λ i h. absurd (omega (arith, h));
  apart = λ i j h. absurd (omega (arith, h));
  all = λ t n at. x.all t n (subst (λ ps. slice_get ps n ≡ Some (Out k)) (still t) at);
  none_swept = λ t. subst (λ ps. list_any (is_swept_by k) ps ≡ false) (sym (still t)) (x.none_swept t);
}
  where
    still : (t : ℕ) → pool (entries_of (before ++ noted k m kind d ∷ [])) t ≡ pool (entries_of before) t
    still t = pool-at before (noted k m kind d) t ∙ same t (pool (entries_of before) t)
