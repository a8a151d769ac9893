use Rattle.resolution.proofs.readability.Laws.{requirements_laws}
use borrow.Author.Rules.{rules}
use Rattle.resolution.proofs.readability.set_requirements.Goals as goal

pub loop-span-init : goal.loop-span-init
loop-span-init c = search (requirements_laws, rules)

pub next-requires : goal.next-requires
next-requires c = search (requirements_laws, rules)

pub set_requirement-requires : goal.set_requirement-requires
set_requirement-requires c = record { base_value = search rules; p_bound = search rules; graph_len = search (requirements_laws, rules); rows_len = search (requirements_laws, rules) }

pub loop-span-smaller : goal.loop-span-smaller
loop-span-smaller c = search (requirements_laws, rules)

pub loop-span-preserved : goal.loop-span-preserved
loop-span-preserved c = search (requirements_laws, rules)

pub returns : goal.returns
returns c = search (requirements_laws, rules)
