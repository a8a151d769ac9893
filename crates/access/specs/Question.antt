-- What the parts of a question are.
use Rattle.std.specs.Prelude.{Bool}
use Rattle.std.proofs.Math.Option.{Option}
use Rattle.records.specs.Descriptor.{Descriptor}
use Rattle.records.specs.Request.{request_of, has_grant}
use Rattle.records.specs.Finder.{Found}
use Rattle.resolution.specs.declared.module_table.ModuleTable.{ModuleTable}
use Rattle.access.specs.Access.{is_reflection, grants_of}
use Rattle.access.specs.Members.{module_of}
use Rattle.access.specs.declared.access.Question.{Question}

abbrev pub reflection : Question → Bool
reflection question = is_reflection question.kind

-- an AE of the request, or an AO, is for the asker
abbrev pub is_overridden : Question → Bool
is_overridden question =
    has_grant (grants_of (reflection question) (request_of question.request.now)) question.target.now question.pkg.now question.asker.now

-- the module of what is found
abbrev pub target_in : ModuleTable → Found → Option Descriptor
target_in table found = module_of table.set.now table.starts.now found
