-- Lists, both ways, for any member.
use Rattle.std.proofs.Common.{◌≡◌, ℕ, zero, suc, ◌+◌, ◌-◌, ◌<◌, ◌≤◌, Bool, true, false, List, [], ◌∷◌, ◌++◌, length, Some, None, Option, refl, sym, ap, subst, ◌∙◌, append_assoc, arith}
use Rattle.hq_expr.specs.State.{State}
use Rattle.hq_expr.specs.Reader.{Parser, peek, tail, sees, and_then, ◌>>=◌, next, pure, skip, skipped}
use Rattle.hq_expr.specs.Lists.{Listed, goes_on, list_from, list}
use Rattle.hq_expr.specs.Lists as lists
use Rattle.hq_expr.specs.declared.cursor.Peek.{Peek}
use Rattle.hq_expr.specs.declared.cursor.Peek.TheVariants as p
use Rattle.hq_expr.specs.declared.lexeme.Lexeme.{Lexeme}
use Rattle.hq_expr.specs.declared.lexeme.Lexeme.TheVariants as lexeme
use Rattle.hq_expr.specs.declared.mark.Mark.TheVariants as m
use Rattle.hq_expr.proofs.Complete.{st}
use Rattle.hq_expr.proofs.Sound.{bind_some, some_parts, sees_mark}

module _ {X : Type 0} (Member : List Lexeme → X → List Lexeme → Type 0) (P : Parser X) where
  -- what is read is a member
  abbrev pub IsSound : Type 0
  IsSound = (s s' : State) (x : X) → P s ≡ Some (x, s') → Member s.rest x s'.rest

  -- a member takes a token
  abbrev pub Shrinks : Type 0
  Shrinks = (ts rest : List Lexeme) (x : X) → Member ts x rest → length rest < length ts

  -- a member is read, where what follows ends it
  abbrev pub IsComplete : (Peek → Type 0) → Type 0
  IsComplete Ends = (l : ℕ) (ts rest : List Lexeme) (x : X) → Member ts x rest → Ends (peek rest) → (l' : ℕ) × (P (st l ts) ≡ Some (x, st l' rest))

  pub complete_list : (Ends : Peek → Type 0) → IsComplete Ends → Shrinks → Ends (p.Mark m.Comma)
      → {ts rest : List Lexeme} {xs : List X} → Listed Member ts xs rest → Ends (peek rest) → sees m.Comma (peek rest) ≡ false
      → (n l : ℕ) (found : List X) → length ts ≤ n → (l' : ℕ) × (list_from P n found (st l ts) ≡ Some (found ++ xs, st l' rest))
  unfolding list_from
  complete_list Ends complete shrinks comma (lists.one {ts = ts} {rest = rest} {x = x} h) ends other zero l found le = absurd (omega (arith, shrinks ts rest x h))
  complete_list Ends complete shrinks comma (lists.one {ts = ts} {rest = rest} {x = x} h) ends other (suc n) l found le =
      let got = complete l ts rest x h ends in (got.0, rw (got.1, other) refl)
  complete_list Ends complete shrinks comma (lists.more {ts = ts} {mid = mid} {rest = rest} {x = x} {xs = xs} h t) ends other zero l found le =
      absurd (omega (arith, shrinks ts (lexeme.Mark m.Comma ∷ mid) x h))
  complete_list Ends complete shrinks comma (lists.more {ts = ts} {mid = mid} {rest = rest} {x = x} {xs = xs} h t) ends other (suc n) l found le =
      let got = complete l ts (lexeme.Mark m.Comma ∷ mid) x h comma in
      let again = complete_list Ends complete shrinks comma t ends other n got.0 (found ++ x ∷ []) (omega (arith, shrinks ts (lexeme.Mark m.Comma ∷ mid) x h)) in
      (again.0, rw got.1 (again.1 ∙ ap (λ ys. Some (ys, st again.0 rest)) (append_assoc found (x ∷ []) xs)))

  pub sound_list : IsSound → (n : ℕ) (found ys : List X) (s s' : State) → list_from P n found s ≡ Some (ys, s') → (xs : List X) × (found ++ xs ≡ ys) × Listed Member s.rest xs s'.rest
  unfolding list_from
  sound_list sound zero found ys s s' h = cc
  sound_list sound (suc n) found ys s s' h =
      let first = bind_some (P s) (λ x. next >>= λ k. goes_on (sees m.Comma k) (list_from P n) (found ++ x ∷ [])) (ys, s') h in
      go first.0.0 first.0.1 (sound s first.0.1 first.0.0 first.1) (sees m.Comma (peek first.0.1.rest)) refl first.2
      (λ t e. sound_list sound n (found ++ first.0.0 ∷ []) ys t s' e)
    where
      go : (x : X) (t : State) → Member s.rest x t.rest → (b : Bool) → sees m.Comma (peek t.rest) ≡ b → goes_on b (list_from P n) (found ++ x ∷ []) t ≡ Some (ys, s')
          → ((u : State) → list_from P n (found ++ x ∷ []) u ≡ Some (ys, s') → (xs : List X) × ((found ++ x ∷ []) ++ xs ≡ ys) × Listed Member u.rest xs s'.rest)
          → (xs : List X) × (found ++ xs ≡ ys) × Listed Member s.rest xs s'.rest
      go x t first false is h again =
          let parts = some_parts (found ++ x ∷ []) ys t s' h in
          (x ∷ [], parts.0, subst (λ (u : State). Listed Member s.rest (x ∷ []) u.rest) parts.1 (lists.one first))
      go x t first true is h again =
          let rest = again (skipped t) h in
          let begun : Member s.rest x (lexeme.Mark m.Comma ∷ tail t.rest) = subst (λ ts. Member s.rest x ts) (sees_mark m.Comma t.rest is) first in
          (x ∷ rest.0, sym (append_assoc found (x ∷ []) rest.0) ∙ rest.1, lists.more begun rest.2)

-- one turn of a loop over members
pub one_member : {X : Type 0} (P : Parser X) (end at : ℕ) (found new : List X) (x : X) (s t u : State) (all : Option (List X × State))
    → at < end → P s ≡ Some (x, t) → sees m.Comma (peek t.rest) ≡ true → new ≡ found ++ x ∷ [] → u ≡ skipped t
    → all ≡ list_from P (end - at) found s → all ≡ list_from P (end - (at + 1)) new u
unfolding list_from
one_member P end at found new x s t u all below member comma made behind e =
    let turn : end - at ≡ suc (end - (at + 1)) = omega arith in
    e ∙ rw (turn, member, comma, made, behind) refl
