-- The pieces given so far, over several steps of a reader.
use Rattle.std.proofs.Common.{◌≡◌, ℕ, List, [], ◌++◌, refl, sym, ap, ◌∙◌, append_assoc, append-nil}
use Rattle.hq_io.specs.Pieces.{Piece, ended_pieces}
use Rattle.hq_io.specs.Reading.{Ends, EndsNone}

-- before the first step
pub Ends-none : (whole : List ℕ) → Ends [] whole whole
Ends-none whole = record { bytes = []; taken = refl; ended = λ more. refl }

-- one step more
pub Ends-then : (given next : List Piece) (whole before after : List ℕ) → Ends given whole before → Ends next before after → Ends (given ++ next) whole after
Ends-then given next whole before after g n = record {
  bytes = g.bytes ++ n.bytes;
  taken = g.taken ∙ ap (λ bs. g.bytes ++ bs) n.taken ∙ sym (append_assoc g.bytes n.bytes after);
  ended = λ more. ap ended_pieces (append_assoc g.bytes n.bytes more) ∙ g.ended (n.bytes ++ more) ∙ ap (λ ps. given ++ ps) (n.ended more) ∙ sym (append_assoc given next (ended_pieces more));
}

-- after bytes that end no piece, all pieces were given whose `;` stands in what was taken
pub Ends-all : (given : List Piece) (whole before after : List ℕ) → Ends given whole before → EndsNone before after → (taken : List ℕ) × (whole ≡ taken ++ after) × (ended_pieces taken ≡ given)
Ends-all given whole before after g n = (
  g.bytes ++ n.bytes,
  g.taken ∙ ap (λ bs. g.bytes ++ bs) n.taken ∙ sym (append_assoc g.bytes n.bytes after),
  g.ended n.bytes ∙ ap (λ ps. given ++ ps) n.none ∙ append-nil given,
)
