-- No body of some of the records is too long where none of all is.
use mathlib.Core.Path.{◌≡◌, sym, ◌∙◌}
use mathlib.Core.List.{List, [], ◌∷◌, ◌++◌}
use mathlib.Core.Bool.{false}
use lib.ListN.{length}
use lib.Dec.{ltb}
use Rattle.records.proofs.Logic.{neither_left, neither_right}
use Rattle.class_reader.specs.Entry.{Item, is_large}
use Rattle.class_reader.proofs.entry.Items.{large_append}

-- the others, and the first record
pub rest-fits : (i : Item) (is : List Item) → is_large (i ∷ is) ≡ false → is_large is ≡ false
unfolding is_large
rest-fits i is e = neither_right (ltb 65535 (length i.body)) (is_large is) e

pub one-fits : (i : Item) (is : List Item) → is_large (i ∷ is) ≡ false → is_large (i ∷ []) ≡ false
unfolding is_large
one-fits i is e = rw (neither_left (ltb 65535 (length i.body)) (is_large is) e)

pub front_fits : (is js : List Item) → is_large (is ++ js) ≡ false → is_large is ≡ false
front_fits is js e = neither_left (is_large is) (is_large js) (sym (large_append is js) ∙ e)

pub back_fits : (is js : List Item) → is_large (is ++ js) ≡ false → is_large js ≡ false
back_fits is js e = neither_right (is_large is) (is_large js) (sym (large_append is js) ∙ e)
