use Rattle.host.proofs.Results.{three_places}
use Rattle.host.proofs.put_result.Goals as goal

pub returns : goal.returns
returns c =
    three_places c.args.res.now c.put_place.new.list c.put_place-2.new.list c.put_place-3.new.list c.args.count c.args.total c.args.links c.requires
    c.put_place.ensures c.put_place-2.ensures c.put_place-3.ensures
