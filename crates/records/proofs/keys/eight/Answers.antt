use Rattle.std.proofs.Common.{refl}
use Rattle.records.proofs.keys.Laws.{key_read}
use Rattle.records.proofs.keys.eight.Goals as goal

pub returns : goal.returns
returns c = key_read c.args.s.now c.args.at _ _ _ _ _ _ _ _ refl refl refl refl refl refl refl refl c.from_be_bytes.result (λ i. (c.type_inv.s i).fits) c.from_be_bytes.ensures
