-- `write_text` puts the text over a part of the output. Assumes nothing.
use mathlib.Core.Path.{refl}
use Rattle.lists.proofs.Sets.{sets_part}
use Rattle.listing_text.proofs.write_text.Goals as goal

pub returns : goal.returns
returns c =
    let v = c.args in
    record { put = sets_part v.out.now _ v.text.now v.at _ c.requires refl c.copy_from_slice.ensures.after; ends = refl }
