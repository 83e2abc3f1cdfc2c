-- What was taken, by the senders of the streams, is the streams.
use Rattle.std.proofs.Common.{◌≡◌, ℕ, zero, suc, ◌+◌, ◌<◌, ◌≤◌, List, [], ◌∷◌, ◌++◌, length, take, get_or, map, Some, None, refl, sym, ap, subst, ◌∙◌, arith}
use Rattle.std.specs.Prelude.{Vec, ◌≢◌, slice_get}
use Rattle.std.proofs.lemmas.List.{map-append, map_more}
use Rattle.std.proofs.lemmas.Option.{slice_get-get_or}
use Rattle.hq_link.specs.Link.{Told}
use Rattle.hq_pump.specs.Seen.{seen}
use Rattle.hq_pump.specs.Safe.{AreAlone, TakeAll, WhereKnown}
use Rattle.hq_exchange.specs.Lists.{AreApart}

-- the streams by their senders
pub given_all : (streams : List (ℕ × List ℕ)) (first now : ℕ → List ℕ) → ((n : ℕ) → first n ≡ []) → TakeAll streams first now → map (λ n. (n, now n)) (map (λ stream. stream.0) streams) ≡ streams
given_all [] first now none all = refl
given_all (x ∷ xs) first now none all =
    let here : now x.0 ≡ x.1 = all zero x refl ∙ ap (λ (l : List ℕ). l ++ x.1) (none x.0) in
    let rest : map (λ n. (n, now n)) (map (λ stream. stream.0) xs) ≡ xs = given_all xs first now none (λ i y e. all (suc i) y e) in
    λ k. (x.0, here k) ∷ rest k

-- the senders of streams as contracts see them
pub senders_seen : {A : Type 0} (streams : List (ℕ × Vec ℕ A)) → map (λ stream. stream.0) (seen streams) ≡ map (λ stream. stream.0) streams
senders_seen [] = refl
senders_seen (x ∷ xs) = ap (λ (l : List ℕ). x.0 ∷ l) (senders_seen xs)

-- where the link tells
where_known : (may : Told) (P Q : Type 0) → (P → Q) → WhereKnown may P → WhereKnown may Q
where_known None P Q f w = w
where_known (Some xs) P Q f w = f w

pub given_known : {A B : Type 0} (may : Told) (streams : List (ℕ × Vec ℕ A)) (got : List (ℕ × Vec ℕ B)) (senders : List ℕ) (first now : ℕ → List ℕ) → ((n : ℕ) → first n ≡ []) → senders ≡ map (λ stream. stream.0) streams → seen got ≡ map (λ n. (n, now n)) senders → WhereKnown may (TakeAll (seen streams) first now) → WhereKnown may (seen got ≡ seen streams)
given_known may streams got senders first now none from is w =
    where_known may (TakeAll (seen streams) first now) (seen got ≡ seen streams) (λ all. is ∙ ap (map (λ (n : ℕ). (n, now n))) (from ∙ sym (senders_seen streams)) ∙ given_all (seen streams) first now none all) w

-- a sender stands at the place of its stream
sender_at : (streams : List (ℕ × List ℕ)) (i n : ℕ) → slice_get (map (λ stream. stream.0) streams) i ≡ Some n → (bytes : List ℕ) × (slice_get streams i ≡ Some (n, bytes))
sender_at [] i n e = absurd cc
sender_at (x ∷ xs) zero n e = let is : Some x.0 ≡ Some n = e in let same : x.0 ≡ n = cc in (x.1, λ k. Some (same k, x.1))
sender_at (x ∷ xs) (suc i) n e = sender_at xs i n e

-- streams each from a node of its own have their senders apart
pub apart : {A : Type 0} (streams : List (ℕ × Vec ℕ A)) (senders : List ℕ) → senders ≡ map (λ stream. stream.0) streams → AreAlone (seen streams) → AreApart senders
apart streams senders from alone i j n e f =
    let is : senders ≡ map (λ stream. stream.0) (seen streams) = from ∙ sym (senders_seen streams) in
    let a = sender_at (seen streams) i n (subst (λ (l : List ℕ). slice_get l i ≡ Some n) is e) in
    let b = sender_at (seen streams) j n (subst (λ (l : List ℕ). slice_get l j ≡ Some n) is f) in
    alone i j (n, a.0) (n, b.0) a.1 b.1 refl

-- one more of them
pub given_more : {A : Type 0} (streams new : List (ℕ × Vec ℕ A)) (bytes : Vec ℕ A) (senders : List ℕ) (i : ℕ) (now : ℕ → List ℕ) → i < length senders → bytes.items ≡ now (get_or senders i 0) → new ≡ streams ++ (get_or senders i 0, bytes) ∷ [] → seen streams ≡ map (λ n. (n, now n)) (take i senders) → seen new ≡ map (λ n. (n, now n)) (take (i + 1) senders)
given_more {A} streams new bytes senders i now lt here is given =
    let n : ℕ = get_or senders i 0 in
    let split : seen new ≡ seen streams ++ (n, bytes.items) ∷ [] = ap (λ (l : List (ℕ × Vec ℕ A)). seen l) is ∙ map-append (λ (stream : ℕ × Vec ℕ A). (stream.0, stream.1.items)) streams ((n, bytes) ∷ []) in
    split ∙ (λ k. given k ++ (n, here k) ∷ []) ∙ sym (map_more (λ (m : ℕ). (m, now m)) senders i 0 lt)

-- the others are left
pub left_more : (senders : List ℕ) (i : ℕ) (first old new : ℕ → List ℕ) → AreApart senders → i < length senders → ((n : ℕ) → n ≢ get_or senders i 0 → new n ≡ old n) → ((j n : ℕ) → i ≤ j → slice_get senders j ≡ Some n → old n ≡ first n) → (j n : ℕ) → i + 1 ≤ j → slice_get senders j ≡ Some n → new n ≡ first n
left_more senders i first old new apart lt others left j n le at =
    others n (λ same. let one : j ≡ i = apart j i n at (slice_get-get_or senders i 0 lt ∙ ap (λ (m : ℕ). Some m) (sym same)) in omega (arith, one, le))
    ∙ left j n (omega (arith, le)) at
