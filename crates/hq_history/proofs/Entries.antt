-- The words on a history, over joined ones.
use Rattle.std.proofs.Common.{◌≡◌, ◌≢◌, ℕ, Bool, eqb, cond, true, false, List, [], ◌∷◌, ◌++◌, sym, refl, ap, ◌∙◌, subst, eq-eqb, ne_eqb, length, length-append, ◌≤◌, arith}
use Rattle.std.proofs.lemmas.List.{append-nil, append_assoc}
use Rattle.hq_history.specs.declared.noted.Noted.{Noted}
use Rattle.hq_history.specs.History.{by, AllBy, AllBelow, StartsWith}

by_step : (k : ℕ) (n : Noted) (ns ms : List Noted) (b : Bool) → by k (ns ++ ms) ≡ by k ns ++ by k ms → cond b (n ∷ by k (ns ++ ms)) (by k (ns ++ ms)) ≡ cond b (n ∷ by k ns) (by k ns) ++ by k ms
by_step k n ns ms true h = ap (λ (l : List Noted). n ∷ l) h
by_step k n ns ms false h = h

pub by-append : (k : ℕ) (ns ms : List Noted) → by k (ns ++ ms) ≡ by k ns ++ by k ms
by-append k [] ms = refl
by-append k (n ∷ ns) ms = by_step k n ns ms (eqb n.entry.session k) (by-append k ns ms)

pub by-own : (k : ℕ) (ns : List Noted) → AllBy k ns → by k ns ≡ ns
by-own k [] h = refl
by-own k (n ∷ ns) h = ap (λ (b : Bool). cond b (n ∷ by k ns) (by k ns)) (eq-eqb n.entry.session k h.0) ∙ ap (λ (l : List Noted). n ∷ l) (by-own k ns h.1)

pub by-other : (k m : ℕ) (ns : List Noted) → AllBy k ns → m ≢ k → by m ns ≡ []
by-other k m [] h ne = refl
by-other k m (n ∷ ns) h ne = ap (λ (b : Bool). cond b (n ∷ by m ns) (by m ns)) (ne_eqb n.entry.session m (λ q. ne (sym q ∙ h.0))) ∙ by-other k m ns h.1 ne

pub by-above : (k m : ℕ) (ns : List Noted) → AllBelow k ns → k ≤ m → by m ns ≡ []
by-above k m [] h le = refl
by-above k m (n ∷ ns) h le = ap (λ (b : Bool). cond b (n ∷ by m ns) (by m ns)) (ne_eqb n.entry.session m (λ q. let l = h.0 in absurd (omega (arith, q)))) ∙ by-above k m ns h.1 le

-- the entries of session k grow by what it added
pub by-more : (k : ℕ) (ns new mine : List Noted) → AllBy k new → by k ns ≡ mine → by k (ns ++ new) ≡ mine ++ new
by-more k ns new mine h e = by-append k ns new ∙ ap (λ (l : List Noted). l ++ by k new) e ∙ ap (λ (l : List Noted). mine ++ l) (by-own k new h)

-- those of another stay
pub by-still : (k m : ℕ) (ns new mine : List Noted) → AllBy k new → m ≢ k → by m ns ≡ mine → by m (ns ++ new) ≡ mine
by-still k m ns new mine h ne e = by-append m ns new ∙ ap (λ (l : List Noted). l ++ by m new) e ∙ ap (λ (l : List Noted). mine ++ l) (by-other k m new h ne) ∙ append-nil mine

pub by-push : (k : ℕ) (ns : List Noted) (n : Noted) → n.entry.session ≡ k → by k (ns ++ n ∷ []) ≡ by k ns ++ n ∷ []
by-push k ns n e = by-more k ns (n ∷ []) (by k ns) (e, tt) refl

pub by-pushed : (k : ℕ) (ns : List Noted) (n : Noted) → n.entry.session ≢ k → by k (ns ++ n ∷ []) ≡ by k ns
by-pushed k ns n ne = by-still n.entry.session k ns (n ∷ []) (by k ns) (refl, tt) (λ q. ne (sym q)) refl

pub starts_longer : (log new seen : List Noted) → StartsWith log seen → StartsWith (log ++ new) seen
starts_longer log new seen h = (h.0 ++ new, ap (λ (l : List Noted). l ++ new) h.1 ∙ append_assoc seen h.0 new)

pub starts_whole : (log : List Noted) → StartsWith log log
starts_whole log = ([], sym (append-nil log))

pub starts_after : (log' log seen : List Noted) → StartsWith log' log → StartsWith log seen → StartsWith log' seen
starts_after log' log seen h g = subst (λ (l : List Noted). StartsWith l seen) (sym h.1) (starts_longer log h.0 seen g)

abbrev head_or : Noted → List Noted → Noted
head_or d [] = d
head_or d (n ∷ ns) = n

abbrev tail_of : List Noted → List Noted
tail_of [] = []
tail_of (n ∷ ns) = ns

-- of two beginnings of one list the shorter begins the longer
begins_of : (first second left right : List Noted) → first ++ left ≡ second ++ right → length first ≤ length second → StartsWith second first
begins_of [] second left right e le = (second, refl)
begins_of (n ∷ ns) [] left right e le = absurd (omega arith)
begins_of (n ∷ ns) (m ∷ ms) left right e le =
    let h = begins_of ns ms left right (ap tail_of e) (omega arith) in
    (h.0, λ i. head_or n (sym e i) ∷ h.1 i)

pub starts_shorter : (log first second : List Noted) → StartsWith log first → StartsWith log second → length first ≤ length second → StartsWith second first
starts_shorter log first second f s le = begins_of first second f.0 s.0 (sym f.1 ∙ s.1) le

nothing_of : (ns : List Noted) → length ns ≡ 0 → ns ≡ []
nothing_of [] e = refl
nothing_of (n ∷ ns) e = absurd (omega (arith, e))

-- what stands behind a beginning that has all entries of session k has none
pub by-rest : (k : ℕ) (seen rest mine : List Noted) → by k (seen ++ rest) ≡ mine → by k seen ≡ mine → by k rest ≡ []
by-rest k seen rest mine whole begun =
    let a = ap length (sym (by-append k seen rest) ∙ whole) in
    let l = length-append (by k seen) (by k rest) in
    let b = ap length begun in
    nothing_of (by k rest) (omega (arith, a, b, l))

-- a beginning has no entry of session k where the history has none
pub by-none : (k : ℕ) (log seen : List Noted) → StartsWith log seen → by k log ≡ [] → by k seen ≡ []
by-none k log seen h e =
    let a = ap length (sym (by-append k seen h.0) ∙ ap (by k) (sym h.1) ∙ e) in
    let l = length-append (by k seen) (by k h.0) in
    nothing_of (by k seen) (omega (arith, a, l))

-- a longer beginning has all entries of session k where a shorter one has
pub by-longer : (k : ℕ) (log seen more mine : List Noted) → StartsWith log more → StartsWith more seen → by k log ≡ mine → by k seen ≡ mine → by k more ≡ mine
by-longer k log seen more mine h g whole begun =
    let a = ap length (sym (by-append k more h.0) ∙ ap (by k) (sym h.1) ∙ whole) in
    let l = length-append (by k more) (by k h.0) in
    let m = ap length (sym (by-append k seen g.0) ∙ ap (by k) (sym g.1)) in
    let n = length-append (by k seen) (by k g.0) in
    let b = ap length begun in
    let rest = nothing_of (by k g.0) (omega (arith, a, l, m, n, b)) in
    ap (by k) g.1 ∙ by-append k seen g.0 ∙ ap (λ (x : List Noted). by k seen ++ x) rest ∙ append-nil (by k seen) ∙ begun
