use Rattle.ds_script.specs.Script.{Fault}
use Rattle.distsend.proofs.Ways.{read_bytes, refused_bytes}
use Rattle.distsend.proofs.answer.answer_bytes.Goals as goal

pub returns-in-Ok : goal.returns-in-Ok
returns-in-Ok c = read_bytes c.args.bytes.now c.in-Ok.script.lines _ _ c.in-Ok.ensures c.replayed.ensures

pub returns-in-Err-Bad : goal.returns-in-Err-Bad
returns-in-Err-Bad c =
    let fault : Fault = record { line = c.in-Err-Bad.line; kind = c.in-Err-Bad.kind } in
    refused_bytes c.args.bytes.now fault _ _ (rw c.in-Err-Bad.field-0-is at c.in-Err-Bad.ensures) c.refused.ensures
