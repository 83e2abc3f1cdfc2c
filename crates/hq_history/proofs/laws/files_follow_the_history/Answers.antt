use Rattle.hq_history.proofs.Files.{length_left-push, bytes_left-push, bytes_are_whole}
use Rattle.hq_history.proofs.laws.files_follow_the_history.Goals as goal

pub returns-clause-length : goal.returns-clause-length
returns-clause-length c = length_left-push

pub returns-clause-bytes : goal.returns-clause-bytes
returns-clause-bytes c = bytes_left-push

pub returns-clause-whole : goal.returns-clause-whole
returns-clause-whole c = bytes_are_whole
