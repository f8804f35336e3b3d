use Rattle.rv_lines.proofs.Buffers.{searched_rest}
use Rattle.rv_lines.proofs.line_reader.find_lf.Goals as goal

pub returns-in-Some : goal.returns-in-Some
returns-in-Some c = let found = searched_rest _ _ _ c.requires.within c.requires.searched c.memchr.ensures in rw c.in-Some.is at found

pub returns-in-None : goal.returns-in-None
returns-in-None c = let found = searched_rest _ _ _ c.requires.within c.requires.searched c.memchr.ensures in rw c.in-None.is at found
