-- The edits of the walk: which edit of a network each stands for, and what an accepted one has done.
-- Assumes nothing.
use Rattle.std.specs.Prelude.{length}
use Rattle.network.specs.Edits.{Edit as NetworkEdit}
use Rattle.network.specs.Edits.Edit.{add, weigh, join, remove}
use Rattle.network.specs.Net.{Net, count}
use Rattle.walkthrough.specs.declared.answer.Done.{Done}
use Rattle.walkthrough.specs.declared.answer.Done.TheVariants.{Node, Pipe, Changed}
use Rattle.walkthrough.specs.declared.edit.Edit.{Edit}
use Rattle.walkthrough.specs.declared.edit.Edit.TheVariants.{Add, Weigh, Join, Remove}

abbrev pub edit_of : Edit → NetworkEdit
edit_of (Add w) = add w
edit_of (Weigh v w) = weigh v w
edit_of (Join a b c) = join a b c
edit_of (Remove p) = remove p

-- the number of the new node or pipe, or bare acceptance
abbrev pub done_by : Net → Edit → Done
done_by net (Add w) = Node (count net)
done_by net (Weigh v w) = Changed
done_by net (Join a b c) = Pipe (length net.pipes)
done_by net (Remove p) = Changed
