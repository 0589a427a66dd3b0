use Rattle.std.proofs.Common.{◌≡◌, rules, arith}
use Rattle.plant_writing.specs.CanonicalText.{text_of}
use Rattle.controller_table.proofs.Copies.{short_text, same_plant, not_refused}
use Rattle.controller_table.proofs.table_copy.copy_plant.Goals as goal

pub read_front-requires : goal.read_front-requires
read_front-requires c =
    let written : c.deref.result.now ≡ text_of c.args.p.now = search rules in
    let short = short_text c.args.p.now c.requires c.deref.result.now written in
    omega (arith, short)

pub returns-in-Ok : goal.returns-in-Ok
returns-in-Ok c =
    let written : c.deref.result.now ≡ text_of c.args.p.now = search rules in
    same_plant c.args.p.now c.requires c.deref.result.now written c.in-Ok.front.plant c.in-Ok.front.length c.in-Ok.ensures.read.0

pub unreachable-requires : goal.unreachable-requires
unreachable-requires c =
    let written : c.deref.result.now ≡ text_of c.args.p.now = search rules in
    not_refused c.args.p.now c.requires c.deref.result.now written c.in-Err-Malformed.field-0 (c.in-Err-Malformed.ensures.refused (λ e. let is = c.in-Err-Malformed.field-0-is in cc))

pub unreachable-requires-in-Err-Limit : goal.unreachable-requires-in-Err-Limit
unreachable-requires-in-Err-Limit c =
    let written : c.deref.result.now ≡ text_of c.args.p.now = search rules in
    not_refused c.args.p.now c.requires c.deref.result.now written c.in-Err-Limit.field-0 (c.in-Err-Limit.ensures.refused (λ e. let is = c.in-Err-Limit.field-0-is in cc))
