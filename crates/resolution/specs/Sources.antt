-- What the sources of the queue tell.
use Rattle.resolution.specs.Resolver.{Inputs, inputs_of}
use Rattle.resolution.specs.Known.{Later}
use Rattle.resolution.specs.declared.sources.Sources.{Sources}

abbrev pub inputs_in : Sources → Inputs
inputs_in sources = inputs_of sources.set.now sources.request.now sources.starts.now sources.old.now sources.phase

-- in a round, before the tables of names are made
abbrev pub LaterIn : Sources → Type 0
LaterIn sources = Later sources.set.now sources.request.now sources.starts.now sources.old.now sources.phase sources.index.now
