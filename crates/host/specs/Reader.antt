-- The readers, as a host calls them.
use Rattle.std.specs.Prelude.{ℕ, ◌≡◌, List, Bool, length}
use Rattle.records.specs.Jar.{jar_answer, name_for, records_for, output_after}
use Rattle.class_reader.specs.ClassFile.{class_answer, items_of}
use Rattle.class_reader.specs.Entry.{bytes_of}
use Rattle.host.specs.Host.{written_reply}
use Rattle.host.specs.Reply.{Told}

pub record ClassTold (f before after particulars : List ℕ) (r : ℕ) : Type 0 where
  pub reply : Told (written_reply (class_answer f (length before))) particulars r
  pub output : after ≡ output_after before (class_answer f (length before)) (bytes_of (items_of f))

pub record JarTold (jar : List ℕ) (given : Bool) (manifest packages before after particulars : List ℕ) (r : ℕ) : Type 0 where
  pub reply : Told (written_reply (jar_answer jar given manifest packages (length before))) particulars r
  pub output : after ≡ output_after before (jar_answer jar given manifest packages (length before)) (records_for (name_for given jar manifest) packages)
