-- The hash of keys, one more.
use Rattle.std.proofs.Common.{◌≡◌, ◌+◌, ◌<◌, ◌∷◌, ◌++◌, [], ℕ, List, length, take, get_or, ap, sym, ◌∙◌, append-nil}
use Rattle.std.specs.Prelude.{fold, flat_map}
use Rattle.std.proofs.lemmas.List.{take_more}
use Rattle.std.proofs.lemmas.List.Concat.{flat_map-append}
use Rattle.std.proofs.lemmas.List.Sums.{fold-append}
use Rattle.hq_value.specs.Bucket.{hash_of, hash_step}

-- the hash of the keys so far, with one more
pub hash_of-more : (f : ℕ → List ℕ) (keys : List ℕ) (i hash : ℕ) → i < length keys → hash ≡ hash_of (flat_map f (take i keys)) → fold hash_step hash (f (get_or keys i 0)) ≡ hash_of (flat_map f (take (i + 1) keys))
hash_of-more f keys i hash below so_far =
    let key : ℕ = get_or keys i 0 in
    let split : flat_map f (take (i + 1) keys) ≡ flat_map f (take i keys) ++ f key = ap (flat_map f) (take_more keys i 0 below) ∙ flat_map-append f (take i keys) (key ∷ []) ∙ ap (λ bytes. flat_map f (take i keys) ++ bytes) (append-nil (f key)) in
    ap (λ h. fold hash_step h (f key)) so_far ∙ sym (fold-append hash_step 14695981039346656037 (flat_map f (take i keys)) (f key)) ∙ ap hash_of (sym split)
