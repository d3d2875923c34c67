-- Each call sets the bytes behind those before; together they fill the record's rest.
use Rattle.basics.proofs.Runs.{sets-all}
use Rattle.problem.specs.Layout.{rest_bytes}
use Rattle.writer.proofs.write_rest.Goals as goal

pub returns : goal.returns
returns c =
    rw (c.put-6.ensures, c.put-5.ensures, c.put-4.ensures, c.put-3.ensures, c.put-2.ensures, c.put.ensures)
    (sets-all (rest_bytes c.args.words.now) c.args.out.now c.requires.1)
