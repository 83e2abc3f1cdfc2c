-- Calls that put bytes, one behind another.
use Rattle.std.proofs.Common.{◌^◌, ◌-◌, ◌<◌, ◌≡◌, ℕ, ◌+◌, ◌≤◌, List, [], ◌∷◌, ◌++◌, length, get_or, take, drop, flat_map, refl, sym, ◌∙◌, ap, subst, arith, Ok, Err, Some, None, OnOk, append_assoc, append-nil, take_at, take-append-drop}
use Rattle.std.specs.declared.option.Option.{Option}
use Rattle.std.specs.declared.result.Result.{Result}
use Rattle.std.specs.Result.{IsOk}
use Rattle.std.specs.Io.KnownBytes.{append_known}
use Rattle.std.proofs.lemmas.List.{take_more, drop_all}
use Rattle.std.proofs.Math.Seq.{take-add}
use Rattle.std.proofs.lemmas.Grind.{flat_map-append}
use Rattle.hq_value.specs.Causes.{HasCause, Rose}
use Rattle.hq_io.specs.declared.label.Label.{Label}
use Rattle.hq_io.specs.Told.{WritesPrefix}
use Rattle.hq_reply.specs.Puts.{Puts}

-- bytes behind bytes behind known bytes
append_known_twice : (known : Option (List ℕ)) (xs ys : List ℕ) → append_known (append_known known xs) ys ≡ append_known known (xs ++ ys)
append_known_twice None xs ys = refl
append_known_twice (Some bs) xs ys = ap Some (append_assoc bs xs ys)

rose_later : (a b c : ℕ) → a ≤ b → Rose b c → Rose a c
rose_later a b c h r = omega (arith, r)

-- a count that did not fall before rises where it rises behind
cause_then : {E : Type 0} (a b c : ℕ) (result : Result Unit E) → a ≤ b → HasCause b c result → HasCause a c result
cause_then a b c (Ok u) h cause = record { later = omega (arith, cause.later); failed = cause.failed }
cause_then a b c (Err e) h cause = record { later = omega (arith, cause.later); failed = rose_later a b c h cause.failed }

-- two calls: what went, and what is left of both
whole_then : (s m t n h x y w : List ℕ) → s ++ m ≡ h ++ x → t ++ n ≡ m ++ y → x ++ y ≡ w → (s ++ t) ++ n ≡ h ++ w
whole_then s m t n h x y w p q e =
    append_assoc s t n ∙ ap (λ l. s ++ l) q ∙ sym (append_assoc s m y) ∙ ap (λ l. l ++ y) p ∙ append_assoc h x y ∙ ap (λ l. h ++ l) e

-- one call, and what was to follow
whole_stop : (s m h x y w : List ℕ) → s ++ m ≡ h ++ x → x ++ y ≡ w → s ++ (m ++ y) ≡ h ++ w
whole_stop s m h x y w p e = sym (append_assoc s m y) ∙ ap (λ l. l ++ y) p ∙ append_assoc h x y ∙ ap (λ l. h ++ l) e

module _ {K E : Type 0} {given : K → Option (List ℕ)} {label : K → Option Label} {faults : K → ℕ} {sound : K → Type 0} where
  -- one call behind another
  pub puts_then : {a b c : K} {h m n : List ℕ} {u : Unit {0}} {r : Result Unit E} {x y w : List ℕ} → Puts {E = E} given label faults sound a b h m (Ok u) x → Puts given label faults sound b c m n r y → x ++ y ≡ w → Puts given label faults sound a c h n r w
  puts_then {a} {b} {c} {h} {m} {n} {u} {r} {x} {y} {w} p q e =
      let held = ap (λ l. p.sent ++ l) (sym p.kept) ∙ p.whole in
      record {
        sent = p.sent ++ q.sent;
        rest = q.rest;
        told = q.told ∙ ap (λ known. append_known known q.sent) p.told ∙ append_known_twice (given a) p.sent q.sent;
        whole = whole_then p.sent m q.sent q.rest h x y w held q.whole e;
        kept = q.kept;
        labelled = q.labelled ∙ p.labelled;
        cause = cause_then (faults a) (faults b) (faults c) r p.cause.later q.cause;
        promise = λ s. let first = p.promise s in let second = q.promise first.1 in (second.0 ∙ first.0, second.1);
      }

  -- a call that failed, whatever was to follow
  stop : {a b : K} {h n : List ℕ} {e d : E} {x w : List ℕ} → Puts given label faults sound a b h n (Err e) x → (y : List ℕ) → x ++ y ≡ w → Puts given label faults sound a b h n (Err d) w
  stop {a} {b} {h} {n} {e} {d} {x} {w} p y same = record {
    sent = p.sent;
    rest = p.rest ++ y;
    told = p.told;
    whole = whole_stop p.sent p.rest h x y w p.whole same;
    kept = tt;
    labelled = p.labelled;
    cause = record { later = p.cause.later; failed = p.cause.failed };
    promise = p.promise;
  }

  pub puts_stop : {a b : K} {h n : List ℕ} {e d : E} {s : Result Unit E} {x w : List ℕ} → Puts given label faults sound a b h n (Err e) x → s ≡ Err d → (y : List ℕ) → x ++ y ≡ w → Puts given label faults sound a b h n s w
  puts_stop {a} {b} {h} {n} {e} {d} {s} {x} {w} p is y same =
      subst (λ r. Puts given label faults sound a b h n r w) (sym is) (stop p y same)

module _ {K E : Type 0} {given : K → Option (List ℕ)} {label : K → Option Label} {faults : K → ℕ} {sound : K → Type 0} where
  -- a second call that failed, whatever was to follow
  pub puts_then_stop : {a b c : K} {h m n : List ℕ} {u : Unit {0}} {e d : E} {s : Result Unit E} {x y w : List ℕ} → Puts {E = E} given label faults sound a b h m (Ok u) x → Puts given label faults sound b c m n (Err e) y → s ≡ Err d → (z : List ℕ) → (x ++ y) ++ z ≡ w → Puts given label faults sound a c h n s w
  puts_then_stop p q is z same = puts_stop (puts_then p q refl) is z same

-- one item more of a loop, and the items behind it
flat_map_step : {X : Type 0} (f : X → List ℕ) (xs : List X) (i : ℕ) (x : X) → i < length xs → x ≡ get_or xs i x → flat_map f (take i xs) ++ f x ≡ flat_map f (take (i + 1) xs)
flat_map_step f xs i x h is =
    ap (λ l. flat_map f (take i xs) ++ l) (sym (append-nil (f x)))
    ∙ sym (flat_map-append f (take i xs) (x ∷ []))
    ∙ ap (λ y. flat_map f (take i xs ++ y ∷ [])) is
    ∙ ap (flat_map f) (sym (take_more xs i x h))

flat_map_rest : {X : Type 0} (f : X → List ℕ) (xs : List X) (n : ℕ) → flat_map f (take n xs) ++ flat_map f (drop n xs) ≡ flat_map f xs
flat_map_rest f xs n = sym (flat_map-append f (take n xs) (drop n xs)) ∙ ap (flat_map f) (take-append-drop n xs)

module _ {K E : Type 0} {given : K → Option (List ℕ)} {label : K → Option Label} {faults : K → ℕ} {sound : K → Type 0} where
  -- a loop over items that are put one behind another: one more, and one that failed
  pub puts_more : {X : Type 0} {a b c : K} {h m n : List ℕ} {u v : Unit {0}} (f : X → List ℕ) (xs : List X) (i : ℕ) (x : X) → i < length xs → x ≡ get_or xs i x → Puts {E = E} given label faults sound a b h m (Ok u) (flat_map f (take i xs)) → Puts {E = E} given label faults sound b c m n (Ok v) (f x) → Puts {E = E} given label faults sound a c h n (Ok v) (flat_map f (take (i + 1) xs))
  puts_more f xs i x h is p q = puts_then p q (flat_map_step f xs i x h is)

  pub puts_broken : {X : Type 0} {a b c : K} {h m n : List ℕ} {u : Unit {0}} {e d : E} {s : Result Unit E} (f : X → List ℕ) (xs : List X) (i : ℕ) (x : X) → i < length xs → x ≡ get_or xs i x → Puts {E = E} given label faults sound a b h m (Ok u) (flat_map f (take i xs)) → Puts given label faults sound b c m n (Err e) (f x) → s ≡ Err d → Puts given label faults sound a c h n s (flat_map f xs)
  puts_broken f xs i x h is p q failed =
      puts_stop (puts_then p q (flat_map_step f xs i x h is)) failed (flat_map f (drop (i + 1) xs)) (flat_map_rest f xs (i + 1))

module _ {K E : Type 0} {given : K → Option (List ℕ)} {label : K → Option Label} {faults : K → ℕ} {sound : K → Type 0} where
  -- how many bytes were given, and that they are all of them where nothing is left
  all_given : {a b : K} {n : List ℕ} (r : Result Unit E) {text : List ℕ} (p : Puts given label faults sound a b [] n r text) → OnOk r (n ≡ []) → OnOk r (length p.sent ≡ length text)
  all_given (Ok u) p empty =
      ap length (sym (append-nil p.sent) ∙ ap (λ l. p.sent ++ l) (sym empty ∙ sym p.kept) ∙ p.whole)
  all_given (Err e) p empty = tt

  -- from an empty buffer, a prefix of the bytes went to the sink, and all of them where the buffer is empty again
  from_empty : {a b : K} {n : List ℕ} {r : Result Unit E} {text : List ℕ} → Puts given label faults sound a b [] n r text → OnOk r (n ≡ []) → WritesPrefix (given a) (given b) r text
  from_empty {a} {b} {n} {r} {text} p empty = record {
    count = length p.sent;
    appended = p.told ∙ ap (λ l. append_known (given a) l) (sym (take_at p.sent p.rest (length p.sent) refl) ∙ ap (take (length p.sent)) p.whole);
    whole = all_given r p empty;
  }

  pub written : {a b : K} {h n : List ℕ} {r : Result Unit E} {text : List ℕ} → h ≡ [] → Puts given label faults sound a b h n r text → OnOk r (n ≡ []) → WritesPrefix (given a) (given b) r text
  written {a} {b} {h} {n} {r} {text} start p empty =
      from_empty (subst (λ held. Puts given label faults sound a b held n r text) start p) empty

  pub written_in_part : {a b : K} {h n : List ℕ} {e d : E} {s : Result Unit E} {text : List ℕ} → h ≡ [] → Puts given label faults sound a b h n (Err e) text → s ≡ Err d → WritesPrefix (given a) (given b) s text
  written_in_part {a} {b} {s} {text} start p is =
      subst (λ r. WritesPrefix (given a) (given b) r text) (sym is) (written start (stop p [] (append-nil text)) tt)

  -- a sound sink doesn't fail
  pub never_fails : {a b : K} {h n : List ℕ} {e : E} {bytes : List ℕ} → Puts given label faults sound a b h n (Err e) bytes → sound a → faults a < 2 ^ 64 - 1 → ⊥
  never_fails p s below = omega (arith, p.cause.failed, (p.promise s).0)

  pub surely_ok : {a b : K} {h n : List ℕ} {bytes : List ℕ} (r : Result Unit E) → Puts given label faults sound a b h n r bytes → sound a → faults a < 2 ^ 64 - 1 → IsOk r
  surely_ok (Ok u) p s below = refl
  surely_ok (Err e) p s below = absurd (never_fails p s below)

-- bytes that were written past an empty buffer: what is left of them is what the buffer holds
unwritten : {E : Type 0} {n : List ℕ} (r : Result Unit E) (count : ℕ) (bytes : List ℕ) → OnOk r (count ≡ length bytes) → n ≡ [] → OnOk r (drop count bytes ≡ n)
unwritten (Ok u) count bytes whole new = drop_all count bytes (omega (arith, whole)) ∙ sym new
unwritten (Err e) count bytes whole new = tt

-- some items more of a loop
flat_map_some : {X : Type 0} (f : X → List ℕ) (xs : List X) (i n : ℕ) → flat_map f (take i xs) ++ flat_map f (take (i + n - i) (drop i xs)) ≡ flat_map f (take (i + n) xs)
flat_map_some f xs i n =
    let same : i + n - i ≡ n = omega (arith) in
    ap (λ m. flat_map f (take i xs) ++ flat_map f (take m (drop i xs))) same
    ∙ sym (flat_map-append f (take i xs) (take n (drop i xs))) ∙ ap (flat_map f) (sym (take-add i n xs))

module _ {K E : Type 0} {given : K → Option (List ℕ)} {label : K → Option Label} {faults : K → ℕ} {sound : K → Type 0} where
  pub puts_past : {a b : K} {h n bytes : List ℕ} (r : Result Unit E) → h ≡ [] → n ≡ [] → WritesPrefix (given a) (given b) r bytes → label b ≡ label a → HasCause (faults a) (faults b) r → (sound a → (faults b ≡ faults a) × sound b) → Puts given label faults sound a b h n r bytes
  puts_past {a} {b} {h} {n} {bytes} r old new wrote labelled cause promise = record {
    sent = take wrote.count bytes;
    rest = drop wrote.count bytes;
    told = wrote.appended;
    whole = take-append-drop wrote.count bytes ∙ ap (λ l. l ++ bytes) (sym old);
    kept = unwritten r wrote.count bytes wrote.whole new;
    labelled = labelled;
    cause = cause;
    promise = promise;
  }

  pub puts_some : {X : Type 0} {a b c : K} {h m n : List ℕ} {u v : Unit {0}} (f : X → List ℕ) (xs : List X) (i count : ℕ) → Puts {E = E} given label faults sound a b h m (Ok u) (flat_map f (take i xs)) → Puts {E = E} given label faults sound b c m n (Ok v) (flat_map f (take (i + count - i) (drop i xs))) → Puts {E = E} given label faults sound a c h n (Ok v) (flat_map f (take (i + count) xs))
  puts_some f xs i count p q = puts_then p q (flat_map_some f xs i count)

  pub puts_cut : {X : Type 0} {a b c : K} {h m n : List ℕ} {u : Unit {0}} {e d : E} {s : Result Unit E} (f : X → List ℕ) (xs : List X) (i count : ℕ) → Puts {E = E} given label faults sound a b h m (Ok u) (flat_map f (take i xs)) → Puts given label faults sound b c m n (Err e) (flat_map f (take (i + count - i) (drop i xs))) → s ≡ Err d → Puts given label faults sound a c h n s (flat_map f xs)
  puts_cut f xs i count p q failed = puts_stop (puts_then p q (flat_map_some f xs i count)) failed (flat_map f (drop (i + count) xs)) (flat_map_rest f xs (i + count))
