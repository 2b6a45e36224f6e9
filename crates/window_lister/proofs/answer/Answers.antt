-- `answer` keeps the output ready: the first line has the room that was made. Assumes nothing.
use borrow.Author.Rules.{rules}
use Rattle.listing.specs.Promises.{LineRoom}
use Rattle.listing.proofs.Choosing.{first_ready}
use Rattle.window_lister.proofs.answer.Goals as goal

pub list_windows-requires : goal.list_windows-requires
list_windows-requires g c =
    let room : LineRoom c.args.out.now c.in_ok-room.room = search rules in
    first_ready _ c.requires room c.write_first-next.ensures

pub returns-in-None : goal.returns-in-None
returns-in-None g c =
    let room : LineRoom c.args.out.now c.in_ok-room.room = search rules in
    first_ready _ c.requires room c.write_first-next.ensures
