use Rattle.records.proofs.sorted.Laws.{place_laws, place-inner, place-half}
use borrow.Author.Rules.{rules}
use Rattle.records.proofs.sorted.Modules.place_from.Goals as goal

pub compare_entry-requires : goal.compare_entry-requires
compare_entry-requires c = record { m_bound = search place-inner; key = search rules; next_key = search rules }

pub seek-requires : goal.seek-requires
seek-requires c = search place-half

pub returns-in-Equal : goal.returns-in-Equal
returns-in-Equal c = search (place_laws, rules)

pub returns-in-Less : goal.returns-in-Less
returns-in-Less c = search (place_laws, rules)

pub returns-in-Greater : goal.returns-in-Greater
returns-in-Greater c = search (place_laws, rules)
