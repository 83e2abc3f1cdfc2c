-- Reading the items of a list one after the other, as a loop does.
use Rattle.std.proofs.Common.{◌≡◌, ℕ, zero, suc, ◌+◌, ◌-◌, ◌<◌, ◌≤◌, List, [], ◌∷◌, ◌++◌, Option, Some, None, refl, sym, ap, ◌∙◌, append_assoc, append-nil, arith}
use Rattle.hq_planwire.specs.declared.fault.PlanFault.{PlanFault}
use Rattle.hq_planwire.specs.declared.fault.PlanFault.TheVariants as fault
use Rattle.hq_planwire.specs.Reading.{Reader, ◌>>=◌, Fails, items_at, byte_at, expr_of, expr_at, op_of, op_at}

-- what was read before, and what is still read
abbrev pub with_front : {A : Type 0} → List A → Option (List A × List ℕ) → Option (List A × List ℕ)
with_front front read = read >>= λ x. Some (front ++ x.0, x.1)

push : {A : Type 0} (front : List A) (first : A) (read : Option (List A × List ℕ)) → with_front front (read >>= λ x. Some (first ∷ x.0, x.1)) ≡ with_front (front ++ first ∷ []) read
push {A} front first (Some x) = ap (λ (items : List A). Some (items, x.1)) (sym (append_assoc front (first ∷ []) x.0))
push front first None = refl

step : {A : Type 0} (get : Reader A) (count i : ℕ) (bytes : List ℕ) → i < count → items_at get (count - i) bytes ≡ (get bytes >>= λ x. items_at get (count - (i + 1)) x.1 >>= λ xs. Some (x.0 ∷ xs.0, xs.1))
unfolding items_at
step get count i bytes below = ap (λ (n : ℕ). items_at get n bytes) (let e : count - i ≡ suc (count - (i + 1)) = omega arith in e)

pub goes_on : {A : Type 0} (get : Reader A) (front : List A) (count i : ℕ) (bytes : List ℕ) (item : A) (after : List ℕ) (total : Option (List A × List ℕ)) → i < count
    → get bytes ≡ Some (item, after) → with_front front (items_at get (count - i) bytes) ≡ total → with_front (front ++ item ∷ []) (items_at get (count - (i + 1)) after) ≡ total
goes_on {A} get front count i bytes item after total below read so_far =
    sym (push front item (items_at get (count - (i + 1)) after))
    ∙ sym (ap (with_front front) (step get count i bytes below ∙ ap (λ (r : Option (A × List ℕ)). r >>= λ x. items_at get (count - (i + 1)) x.1 >>= λ xs. Some (x.0 ∷ xs.0, xs.1)) read))
    ∙ so_far

pub ends : {A : Type 0} (get : Reader A) (e : PlanFault) (front : List A) (count i : ℕ) (bytes : List ℕ) (total : Option (List A × List ℕ)) → i < count
    → Fails e (get bytes) → with_front front (items_at get (count - i) bytes) ≡ total → Fails e total
ends get fault.NoMemory front count i bytes total below read so_far = tt
ends {A} get fault.NotAPlan front count i bytes total below read so_far =
    sym so_far ∙ ap (with_front front) (step get count i bytes below ∙ ap (λ (r : Option (A × List ℕ)). r >>= λ x. items_at get (count - (i + 1)) x.1 >>= λ xs. Some (x.0 ∷ xs.0, xs.1)) read)

pub is_done : {A : Type 0} (get : Reader A) (front : List A) (count i : ℕ) (bytes : List ℕ) (total : Option (List A × List ℕ)) → count ≤ i
    → with_front front (items_at get (count - i) bytes) ≡ total → total ≡ Some (front, bytes)
unfolding items_at
is_done {A} get front count i bytes total end so_far =
    sym so_far ∙ ap (λ (n : ℕ). with_front front (items_at get n bytes)) (let e : count - i ≡ 0 = omega arith in e) ∙ ap (λ (items : List A). Some (items, bytes)) (append-nil front)

-- ---- one byte tells the variant, and what is in it is nested one less deep

pub deeper_expr : (depth : ℕ) (bytes : List ℕ) (b : ℕ) (rest : List ℕ) → 0 < depth → byte_at bytes ≡ Some (b, rest) → expr_at depth bytes ≡ expr_of (expr_at (depth - 1)) b rest
unfolding expr_at
deeper_expr zero bytes b rest deep e = absurd (omega (arith, deep))
deeper_expr (suc n) bytes b rest deep e =
    ap (λ (o : Option (ℕ × List ℕ)). o >>= λ x. expr_of (expr_at n) x.0 x.1) e ∙ ap (λ (k : ℕ). expr_of (expr_at k) b rest) (let s : n ≡ suc n - 1 = omega arith in s)

pub deeper_op : (depth : ℕ) (bytes : List ℕ) (b : ℕ) (rest : List ℕ) → 0 < depth → byte_at bytes ≡ Some (b, rest) → op_at depth bytes ≡ op_of (op_at (depth - 1)) b rest
unfolding op_at
deeper_op zero bytes b rest deep e = absurd (omega (arith, deep))
deeper_op (suc n) bytes b rest deep e =
    ap (λ (o : Option (ℕ × List ℕ)). o >>= λ x. op_of (op_at n) x.0 x.1) e ∙ ap (λ (k : ℕ). op_of (op_at k) b rest) (let s : n ≡ suc n - 1 = omega arith in s)
