-- Each call sets the bytes behind those before; together they fill the header.
use Rattle.basics.proofs.Runs.{sets-all}
use Rattle.problem.specs.File.{header_bytes}
use Rattle.writer.proofs.write_header.Goals as goal

pub returns : goal.returns
returns c =
    rw (c.put-8.ensures, c.put-7.ensures, c.put-6.ensures, c.put-5.ensures, c.put-4.ensures, c.put-3.ensures, c.put-2.ensures, c.put.ensures, c.put_mark.ensures, c.version_of.ensures)
    (sets-all (header_bytes c.args.layout c.args.words.now) c.args.out.now c.requires.1)
