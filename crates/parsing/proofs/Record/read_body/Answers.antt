-- read_body: each turn stores one number of the body more.
use Rattle.std.proofs.Common.{ap, ◌∙◌, arith}
use lib.Seq.{sets, take_all}
use Rattle.rules.specs.Patch.{body}
use Rattle.parsing.proofs.Pairs.{body_count, body_more}
use Rattle.parsing.proofs.Record.read_body.Goals as goal

pub loop-i-preserved : goal.loop-i-preserved
loop-i-preserved c =
    let l = c.loop-i in let b = c.args.self.bytes.now in
    body_more b c.args.out.now _ l.i c.pair.result l.invariant (omega (arith, body_count b)) c.pair.ensures

pub returns : goal.returns
returns c =
    let l = c.loop-i in let b = c.args.self.bytes.now in record {
      count = omega (arith, body_count b);
      most = omega arith;
      out = l.invariant ∙ ap (λ t. sets c.args.out.now 0 t) (take_all l.i (body b) (omega (arith, body_count b)));
    }
