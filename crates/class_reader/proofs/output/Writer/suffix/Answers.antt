use Rattle.class_reader.proofs.output.Parts.{flagged-room, provides-room}
use Rattle.class_reader.proofs.output.Writer.suffix.Goals as goal

pub list-requires : goal.list-requires
list-requires c =
    flagged-room _ _ _ _ _ _ c.requires.p_bound c.be16-in-Exports.ensures.upper_bound _ c.in-Exports.is c.be16-in-Exports.ensures.value
    c.requires.p_value c.requires.p_in_bounds

pub list-requires-in-Provides : goal.list-requires-in-Provides
list-requires-in-Provides c =
    provides-room _ _ _ _ _ _ c.requires.p_bound c.be16-in-Provides.ensures.upper_bound _ c.in-Provides.is c.be16-in-Provides.ensures.value
    c.requires.p_value c.requires.p_in_bounds
