-- Nodes 0 to 3, of which each owns every fourth bucket.
use Rattle.std.proofs.Common.{◌≡◌, ◌<◌, ℕ, List, [], ◌∷◌, Bool, true, length, replicate, sym, ap, subst, arith}
use Rattle.std.specs.List.{All}
use Rattle.std.proofs.lemmas.List.Elements.{All-cons, All-nil}
use Rattle.hq_meaning.specs.Nodes.{nodes_of}
use Rattle.hq_motion.specs.Split.{nodes_up}

pub in_use : (marks : List Bool) → marks ≡ replicate 4 true → nodes_of (0 ∷ 1 ∷ 2 ∷ 3 ∷ 0 ∷ 1 ∷ 2 ∷ 3 ∷ 0 ∷ 1 ∷ 2 ∷ 3 ∷ 0 ∷ 1 ∷ 2 ∷ 3 ∷ []) ≡ nodes_up marks
in_use marks e = ap nodes_up (sym e)

pub some_up : (marks : List Bool) → marks ≡ replicate 4 true → 0 < length (nodes_up marks)
some_up marks e = let h : 0 < 4 = omega arith in subst (λ m. 0 < length (nodes_up m)) (sym e) h

pub owners : All (λ n. n < 16) (0 ∷ 1 ∷ 2 ∷ 3 ∷ 0 ∷ 1 ∷ 2 ∷ 3 ∷ 0 ∷ 1 ∷ 2 ∷ 3 ∷ 0 ∷ 1 ∷ 2 ∷ 3 ∷ [])
owners = All-cons (λ n. n < 16) 0 (1 ∷ 2 ∷ 3 ∷ 0 ∷ 1 ∷ 2 ∷ 3 ∷ 0 ∷ 1 ∷ 2 ∷ 3 ∷ 0 ∷ 1 ∷ 2 ∷ 3 ∷ []) (omega arith) (All-cons (λ n. n < 16) 1 (2 ∷ 3 ∷ 0 ∷ 1 ∷ 2 ∷ 3 ∷ 0 ∷ 1 ∷ 2 ∷ 3 ∷ 0 ∷ 1 ∷ 2 ∷ 3 ∷ []) (omega arith) (All-cons (λ n. n < 16) 2 (3 ∷ 0 ∷ 1 ∷ 2 ∷ 3 ∷ 0 ∷ 1 ∷ 2 ∷ 3 ∷ 0 ∷ 1 ∷ 2 ∷ 3 ∷ []) (omega arith) (All-cons (λ n. n < 16) 3 (0 ∷ 1 ∷ 2 ∷ 3 ∷ 0 ∷ 1 ∷ 2 ∷ 3 ∷ 0 ∷ 1 ∷ 2 ∷ 3 ∷ []) (omega arith) (All-cons (λ n. n < 16) 0 (1 ∷ 2 ∷ 3 ∷ 0 ∷ 1 ∷ 2 ∷ 3 ∷ 0 ∷ 1 ∷ 2 ∷ 3 ∷ []) (omega arith) (All-cons (λ n. n < 16) 1 (2 ∷ 3 ∷ 0 ∷ 1 ∷ 2 ∷ 3 ∷ 0 ∷ 1 ∷ 2 ∷ 3 ∷ []) (omega arith) (All-cons (λ n. n < 16) 2 (3 ∷ 0 ∷ 1 ∷ 2 ∷ 3 ∷ 0 ∷ 1 ∷ 2 ∷ 3 ∷ []) (omega arith) (All-cons (λ n. n < 16) 3 (0 ∷ 1 ∷ 2 ∷ 3 ∷ 0 ∷ 1 ∷ 2 ∷ 3 ∷ []) (omega arith) (All-cons (λ n. n < 16) 0 (1 ∷ 2 ∷ 3 ∷ 0 ∷ 1 ∷ 2 ∷ 3 ∷ []) (omega arith) (All-cons (λ n. n < 16) 1 (2 ∷ 3 ∷ 0 ∷ 1 ∷ 2 ∷ 3 ∷ []) (omega arith) (All-cons (λ n. n < 16) 2 (3 ∷ 0 ∷ 1 ∷ 2 ∷ 3 ∷ []) (omega arith) (All-cons (λ n. n < 16) 3 (0 ∷ 1 ∷ 2 ∷ 3 ∷ []) (omega arith) (All-cons (λ n. n < 16) 0 (1 ∷ 2 ∷ 3 ∷ []) (omega arith) (All-cons (λ n. n < 16) 1 (2 ∷ 3 ∷ []) (omega arith) (All-cons (λ n. n < 16) 2 (3 ∷ []) (omega arith) (All-cons (λ n. n < 16) 3 ([]) (omega arith) (All-nil (λ n. n < 16)))))))))))))))))
