use Rattle.std.proofs.Common.{◌≡◌, rules}
use Rattle.packed_json.proofs.Numbered.{numbers_written}
use Rattle.packed_json.proofs.writing.write_numbers.Goals as goal

pub returns : goal.returns
returns c =
    let same : c.args.prim ≡ c.args.numbers.now.prim = search rules in
    rw same (numbers_written c.args.numbers.now c.args.out.now c.put.new.out c.put_list.new.out c.in_ok-put.ensures c.in_ok-put_list.ensures)
