use Rattle.records.proofs.sorted.Laws.{place_laws, place-some, place-half, place-next, place-behind}
use borrow.Author.Rules.{rules}
use Rattle.records.proofs.sorted.Modules.place_of.Goals as goal

pub compare_entry-requires : goal.compare_entry-requires
compare_entry-requires c = record { m_bound = search place-some; key = search rules; next_key = search rules }

pub place_from-requires : goal.place_from-requires
place_from-requires c = record { h_bound = search (place-next, place-some); below = search place-behind; key = search rules; next_key = search rules }

pub seek-requires : goal.seek-requires
seek-requires c = search place-half

pub returns-in-Greater : goal.returns-in-Greater
returns-in-Greater c = search (place_laws, rules)
