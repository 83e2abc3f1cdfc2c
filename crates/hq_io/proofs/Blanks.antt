-- Whether what is left of a text is blank, a byte further on.
use Rattle.std.proofs.Common.{◌≡◌, ◌+◌, ◌<◌, ◌&&◌, ℕ, List, drop, get_or, length, ap}
use Rattle.std.proofs.lemmas.List.{drop_more}
use Rattle.hq_io.specs.Pieces.{behind, says_nothing, is_blank_from}
use Rattle.hq_io.specs.declared.place.Place.{Place}

pub blank-more : (at : Place) (xs : List ℕ) (i : ℕ) → i < length xs
    → is_blank_from at (drop i xs) ≡ (says_nothing at (get_or xs i 0) (drop (i + 1) xs) && is_blank_from (behind at (get_or xs i 0) (drop (i + 1) xs)) (drop (i + 1) xs))
blank-more at xs i within = ap (is_blank_from at) (drop_more xs i 0 within)
