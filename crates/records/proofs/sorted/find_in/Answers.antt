use Rattle.records.proofs.sorted.Laws.{find_first, find-there, find-there-walk}
use Rattle.records.proofs.sorted.find_in.Goals as goal

pub seek-requires : goal.seek-requires
seek-requires c = search find_first

pub returns-in-Ok : goal.returns-in-Ok
returns-in-Ok c = record { value = search find-there; walk_value = search find-there-walk }
