-- Bytes in parts: counted, read and cut.
use Rattle.std.proofs.Common.{◌≡◌, ℕ, ◌+◌, ◌-◌, ◌*◌, ◌<◌, ◌≤◌, List, [], ◌∷◌, ◌++◌, suc, zero, length, take, drop, get_or, refl, sym, ◌∙◌, ap, arith, append_assoc, append-nil, length-append, set}
use Rattle.std.specs.Prelude.{slice_range}
use Rattle.std.proofs.Math.Seq.{take-append_seam, take-append-add, drop-append-add, take-length, take-add}
use Rattle.std.proofs.lemmas.List.{take-append-le, drop-append-le, take-take, take-append-drop, drop-drop, take_more, flat_map_more, take_more_set, take-set, take_all, length-take}
use Rattle.std.proofs.lemmas.List.Concat.{flat_map-append, get_or-flat_map}
use Rattle.hq_store.specs.Pages.{flat, joined, bytes_in, AreWhole, AreGroups, IsRunAt}

-- parts behind the first
tail_whole : {A : Type 0} (size : ℕ) (part : List A) (parts : List (List A)) → AreWhole size (part ∷ parts) → AreWhole size parts
tail_whole size part parts whole k d within = whole (suc k) d (omega arith)

-- the members of the first parts
pub length-front : {A : Type 0} (size : ℕ) (parts : List (List A)) (place : ℕ) → AreWhole size parts → place ≤ length parts → length (flat (take place parts)) ≡ place * size
length-front size parts zero whole within = omega arith
length-front size [] (suc place) whole within = omega arith
length-front size (part ∷ parts) (suc place) whole within =
    let here : length part ≡ size = whole 0 [] (omega arith) in
    let rest : length (flat (take place parts)) ≡ place * size =
    length-front size parts place (tail_whole size part parts whole) (omega arith) in
    omega (arith, length-append part (flat (take place parts)))

-- the members of all parts
pub length-flat : {A : Type 0} (size : ℕ) (parts : List (List A)) → AreWhole size parts → length (flat parts) ≡ length parts * size
length-flat {A} size parts whole =
    ap (λ (all : List (List A)). length (flat all)) (sym (take-length parts))
    ∙ length-front size parts (length parts) whole (omega arith)

-- all of them, counted
pub length-joined : {A : Type 0} (size : ℕ) (parts : List (List A)) (rest : List A) → AreWhole size parts → length (joined parts rest) ≡ length parts * size + length rest
length-joined size parts rest whole = omega (arith, length-append (flat parts) rest, length-flat size parts whole)

-- groups of pages, counted
pub length-groups : (size count : ℕ) (groups : List (List (List ℕ))) → AreGroups size count groups → length (flat (flat groups)) ≡ length groups * (count * size)
length-groups size count groups whole =
    let pages : length (flat groups) ≡ length groups * count = length-flat count groups whole.0 in
    let bytes : length (flat (flat groups)) ≡ length (flat groups) * size = length-flat size (flat groups) whole.1 in
    bytes ∙ ap (λ (n : ℕ). n * size) pages ∙ grind arith

-- the bytes of the groups are among all bytes
pub groups_within : (groups : List (List (List ℕ))) (pages runs : List (List ℕ)) (unshared : List ℕ) → length (flat (flat groups)) ≤ length (bytes_in groups pages runs unshared)
groups_within groups pages runs unshared = omega (arith, length-append (flat (flat groups)) (joined pages (joined runs unshared)))

-- a page of a group among all pages
pub page_in_group : (count : ℕ) (groups : List (List (List ℕ))) (at place within : ℕ) (group pages : List (List ℕ)) (page : List ℕ) → AreWhole count groups
    → place < length groups → within < count → at ≡ place * count + within → group ≡ get_or groups place group → pages ≡ group
    → page ≡ get_or pages within page → page ≡ get_or (flat groups) at page
page_in_group count groups at place within group pages page whole there inside here is_group same is_page =
    let front : length (flat (take place groups)) ≡ place * count = length-front count groups place whole (omega arith) in
    let at_place : at ≡ length (flat (take place groups)) + within = omega arith in
    let long : within < length (get_or groups place group) = omega (arith, whole place group there) in
    is_page
    ∙ ap (λ (ps : List (List ℕ)). get_or ps within page) (same ∙ is_group)
    ∙ sym (get_or-flat_map (λ (g : List (List ℕ)). g) groups place within group page there long)
    ∙ ap (λ (n : ℕ). get_or (flat groups) n page) (sym at_place)

-- one part more
pub flat_more : {A : Type 0} (parts : List (List A)) (i : ℕ) (d : List A) → i < length parts → flat (take (i + 1) parts) ≡ flat (take i parts) ++ get_or parts i d
flat_more {A} parts i d within =
    ap (λ (ps : List (List A)). flat ps) (take_more parts i d within) ∙ sym (flat_map_more (λ (p : List A). p) [] (take i parts) (get_or parts i d))

-- one part more, counted
pub length-flat_more : {A : Type 0} (parts : List (List A)) (i : ℕ) (d : List A) → i < length parts → length (flat (take (i + 1) parts)) ≡ length (flat (take i parts)) + length (get_or parts i d)
length-flat_more parts i d within = ap length (flat_more parts i d within) ∙ length-append (flat (take i parts)) (get_or parts i d)

-- the members before a part, the part, and what follows it
split_flat : {A : Type 0} (parts : List (List A)) (place : ℕ) (d : List A) → place < length parts
    → flat parts ≡ flat (take place parts) ++ (get_or parts place d ++ flat (drop (suc place) parts))
split_flat [] place d within = absurd (omega arith)
split_flat (part ∷ parts) zero d within = refl
split_flat {A} (part ∷ parts) (suc place) d within =
    ap (λ (rest : List A). part ++ rest) (split_flat parts place d (omega arith))
    ∙ sym (append_assoc part (flat (take place parts)) (get_or parts place d ++ flat (drop (suc place) parts)))

-- the end of a part lies in the bytes
pub run_in_part : (parts : List (List ℕ)) (at place within : ℕ) (part run : List ℕ) → place < length parts
    → at ≡ length (flat (take place parts)) + within → part ≡ get_or parts place part → within ≤ length part
    → run ≡ drop within part → IsRunAt (flat parts) at run
run_in_part parts at place within part run there here is short end =
    let front : List ℕ = flat (take place parts) in
    let more : List ℕ = flat (drop (suc place) parts) in
    let split : flat parts ≡ front ++ (part ++ more) =
    split_flat parts place part there ∙ ap (λ (p : List ℕ). front ++ (p ++ more)) (sym is) in
    let from : drop at (flat parts) ≡ run ++ more =
    rw (here, split, drop-append-add, end) (drop-append-le within part more short) in
    rw from (take-append_seam run more)

-- a run of the first bytes is one of all
pub run_before : (front bytes : List ℕ) (at : ℕ) (run : List ℕ) → at ≤ length front → IsRunAt front at run → IsRunAt (front ++ bytes) at run
run_before front bytes at run inside is =
    let long : length run ≤ length (drop at front) = omega (arith, ap length is, length-take (length run) (drop at front)) in
    let from : drop at (front ++ bytes) ≡ drop at front ++ bytes = drop-append-le at front bytes inside in
    rw from (take-append-le (length run) (drop at front) bytes long ∙ is)

-- a run of the bytes behind others
pub run_behind_all : (front bytes : List ℕ) (at within : ℕ) (run : List ℕ) → at ≡ length front + within → IsRunAt bytes within run → IsRunAt (front ++ bytes) at run
run_behind_all front bytes at within run here is = rw (here, drop-append-add front bytes within) is

-- the end of the bytes
pub run_to_end : (bytes : List ℕ) (at : ℕ) (run : List ℕ) → run ≡ drop at bytes → IsRunAt bytes at run
run_to_end bytes at run end = rw (← end) (take-length run)

-- one run more of the bytes
pub read_more : (bytes before run : List ℕ) (at done count : ℕ) → before ≡ slice_range bytes at (at + done)
    → IsRunAt bytes (at + done) run → count ≤ length run → before ++ take count run ≡ slice_range bytes at (at + (done + count))
read_more bytes before run at done count so_far is_run short =
    let rest : List ℕ = drop at bytes in
    let counted : at + done - at ≡ done = omega arith in
    let counted_more : at + (done + count) - at ≡ done + count = omega arith in
    let front : before ≡ take done rest = so_far ∙ ap (λ (n : ℕ). take n rest) counted in
    let part : take count run ≡ take count (drop done rest) =
    ap (λ (xs : List ℕ). take count xs) (sym is_run)
    ∙ take-take count (length run) (drop (at + done) bytes) short
    ∙ ap (λ (xs : List ℕ). take count xs) (sym (drop-drop done at bytes)) in
    rw (counted_more, front, part) (sym (take-add done count rest))

-- one part more
pub joined_push : {A : Type 0} (parts : List (List A)) (part rest : List A) → joined (parts ++ part ∷ []) rest ≡ joined parts (part ++ rest)
joined_push [] part rest = append_assoc part [] rest
joined_push {A} (first ∷ parts) part rest =
    append_assoc first (flat (parts ++ part ∷ [])) rest
    ∙ ap (λ (more : List A). first ++ more) (joined_push parts part rest)
    ∙ sym (append_assoc first (flat parts) (part ++ rest))

-- a full part goes from the members that are left to the parts
pub part_moved : {A : Type 0} (count : ℕ) (made made' : List (List A)) (part rest more : List A) → made' ≡ made ++ part ∷ [] → part ≡ take count rest
    → more ≡ drop count rest → joined made' more ≡ joined made rest
part_moved {A} count made made' part rest more pushed front back =
    let all : part ++ more ≡ rest = rw (front, back) (take-append-drop count rest) in
    rw pushed (joined_push made part more ∙ ap (λ (xs : List A). joined made xs) all)

-- a cut within a part keeps the parts before it and its front
pub cut_in_part : (parts : List (List ℕ)) (rest : List ℕ) (at place within : ℕ) (part kept : List ℕ) → place < length parts
    → at ≡ length (flat (take place parts)) + within → part ≡ get_or parts place part → within ≤ length part
    → kept ≡ take within part → joined (take place parts) kept ≡ take at (joined parts rest)
cut_in_part parts rest at place within part kept there here is short front_of =
    let front : List ℕ = flat (take place parts) in
    let more : List ℕ = flat (drop (suc place) parts) in
    let split : joined parts rest ≡ front ++ (part ++ (more ++ rest)) =
    ap (λ (xs : List ℕ). xs ++ rest) (split_flat parts place part there)
    ∙ append_assoc front (get_or parts place part ++ more) rest
    ∙ ap (λ (xs : List ℕ). front ++ xs) (append_assoc (get_or parts place part) more rest)
    ∙ ap (λ (p : List ℕ). front ++ (p ++ (more ++ rest))) (sym is) in
    let cut : take at (joined parts rest) ≡ joined (take place parts) kept =
    rw (here, split, take-append-add, front_of)
    (ap (λ (xs : List ℕ). front ++ xs) (take-append-le within part (more ++ rest) short)) in
    sym cut

-- a cut behind the first bytes keeps them and cuts the rest
pub cut_behind : (front bytes : List ℕ) (at within : ℕ) (kept : List ℕ) → at ≡ length front + within → kept ≡ take within bytes → front ++ kept ≡ take at (front ++ bytes)
cut_behind front bytes at within kept here is = rw (here, is) (sym (take-append-add front bytes within))

-- the pages of groups and those behind them, as one list
all_pages : (groups : List (List (List ℕ))) (pages : List (List ℕ)) (tail : List ℕ) → joined (joined groups pages) tail ≡ joined (flat groups) (joined pages tail)
all_pages groups pages tail =
    ap (λ (bytes : List ℕ). bytes ++ tail) (flat_map-append (λ (page : List ℕ). page) (flat groups) pages)
    ∙ append_assoc (flat (flat groups)) (flat pages) tail

-- pages that go to the groups stay where they were
pub bytes_stay : (groups groups' : List (List (List ℕ))) (pages pages' : List (List ℕ)) (tail : List ℕ) → joined groups' pages' ≡ joined groups pages
    → joined (flat groups') (joined pages' tail) ≡ joined (flat groups) (joined pages tail)
bytes_stay groups groups' pages pages' tail same =
    sym (all_pages groups' pages' tail)
    ∙ ap (λ (pages : List (List ℕ)). joined pages tail) same
    ∙ all_pages groups pages tail

-- all bytes, counted
pub length-bytes_in : (size : ℕ) (groups : List (List (List ℕ))) (pages runs : List (List ℕ)) (unshared : List ℕ) → AreWhole size pages
    → length (bytes_in groups pages runs unshared) ≡ length (flat (flat groups)) + (length pages * size + length (joined runs unshared))
length-bytes_in size groups pages runs unshared whole =
    omega (arith, length-append (flat (flat groups)) (joined pages (joined runs unshared)), length-joined size pages (joined runs unshared) whole)

-- parts that are some of the first members
pub flat_taken : {A : Type 0} (size count : ℕ) (parts : List (List A)) (rest all : List A) → AreWhole size parts → length parts ≡ count → joined parts rest ≡ all
    → flat parts ≡ take (count * size) all
flat_taken {A} size count parts rest all whole counted is =
    let long : length (flat parts) ≡ count * size = length-flat size parts whole ∙ ap (λ (n : ℕ). n * size) counted in
    rw (← is, ← long) (sym (take-append_seam (flat parts) rest))

-- the bytes before a place in a run or behind all runs
pub length-first : (parts : List (List ℕ)) (place : ℕ) → length parts ≤ place → length (flat (take place parts)) ≡ length (flat parts)
length-first parts place past = ap (λ (ps : List (List ℕ)). length (flat ps)) (take_all place parts past)

-- the bytes up to a place in a part are among all bytes
pub first_within : (parts : List (List ℕ)) (place within : ℕ) (d : List ℕ) → place < length parts → within ≤ length (get_or parts place d)
    → length (flat (take place parts)) + within ≤ length (flat parts)
first_within parts place within d there inside =
    let front : List ℕ = flat (take place parts) in
    let part : List ℕ = get_or parts place d in
    let more : List ℕ = flat (drop (suc place) parts) in
    omega (arith, ap length (split_flat parts place d there), length-append front (part ++ more), length-append part more)

-- a cut within a run keeps the runs before it and its front
pub cut_at_run : (runs : List (List ℕ)) (unshared : List ℕ) (at place within : ℕ) (run kept : List ℕ) → place < length runs
    → at ≡ length (flat (take place runs)) + within → run ≡ get_or runs place run → within ≤ length run → kept ≡ take within run
    → joined (take (place + 1) (set runs place kept)) [] ≡ take at (joined runs unshared)
cut_at_run runs unshared at place within run kept there here is short front =
    ap (λ (rs : List (List ℕ)). joined rs []) (take_more_set runs place kept there)
    ∙ joined_push (take place runs) kept []
    ∙ ap (λ (xs : List ℕ). joined (take place runs) xs) (append-nil kept)
    ∙ cut_in_part runs unshared at place within run kept there here is short front

-- a cut within a page keeps the pages before it and its front
pub cut_at_page : (pages : List (List ℕ)) (rest : List ℕ) (at place within : ℕ) (page other kept : List ℕ) → place < length pages
    → at ≡ length (flat (take place pages)) + within → page ≡ get_or pages place page → within ≤ length page → kept ≡ take within page
    → joined (take place (set pages place other)) kept ≡ take at (joined pages rest)
cut_at_page pages rest at place within page other kept there here is short front =
    ap (λ (ps : List (List ℕ)). joined ps kept) (take-set pages place other) ∙ cut_in_part pages rest at place within page kept there here is short front
