use Rattle.hq_io.proofs.Quoting.{texts-quoted, texts-commented}
use Rattle.hq_io.proofs.laws.semicolons_in_texts_and_comments_end_no_piece.Goals as goal

pub returns-clause-texts : goal.returns-clause-texts
returns-clause-texts c = texts-quoted

pub returns-clause-comments : goal.returns-clause-comments
returns-clause-comments c = texts-commented
