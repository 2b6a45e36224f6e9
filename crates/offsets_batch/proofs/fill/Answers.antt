-- `fill` meets its contract, by the way that offsets are converted. Assumes nothing.
use Rattle.offsets_batch.proofs.fill.Goals as goal

pub returns-in-ToCharacters : goal.returns-in-ToCharacters
returns-in-ToCharacters c = rw c.in-ToCharacters.is c.fill_places.ensures

pub returns-in-ToBytes : goal.returns-in-ToBytes
returns-in-ToBytes c = rw c.in-ToBytes.is c.fill_back.ensures
