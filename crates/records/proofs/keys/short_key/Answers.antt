use Rattle.records.proofs.keys.Laws.{key_read}
use Rattle.records.proofs.keys.short_key.Goals as goal

pub returns : goal.returns
returns c =
    key_read c.args.s.now 0 _ _ _ _ _ _ _ _ c.byte.ensures.value c.byte-2.ensures.value c.byte-3.ensures.value c.byte-4.ensures.value c.byte-5.ensures.value c.byte-6.ensures.value c.byte-7.ensures.value c.byte-8.ensures.value
    c.from_be_bytes.result (λ i. (c.type_inv.s i).fits) c.from_be_bytes.ensures
