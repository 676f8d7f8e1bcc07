use Rattle.std.proofs.Common.{◌≡◌, List, ℕ, Option, Some, None, ap, subst}
use Rattle.std.specs.Prelude.{option_map}
use Rattle.spelling.specs.Reading.{Fails}
use Rattle.spelling.specs.declared.input.Unread.{Unread}
use Rattle.spelling.proofs.Lists.{are_bytes}
use Rattle.sync_follow.specs.Grammar.{text_in_feed}
use Rattle.sync_follow.proofs.Finding.{finds_row, finds_none, finds_end, finds_part, finds_wrong}
use Rattle.sync_follow.proofs.find.find.Goals as goal

pub returns-in-Some : goal.returns-in-Some
returns-in-Some c =
    let text : Option (List ℕ) = option_map (λ body. body.now) c.in-Ok-Some.field-0 in
    let is : text ≡ Some c.in-Ok-Some.body.now = ap (option_map (λ body. body.now)) c.in-Ok-Some.field-0-is in
    finds_row c.args.count c.args.bytes.now c.new-input.result (are_bytes c.args.bytes.now c.type_inv.bytes) c.new-input.ensures c.read_text.new.input text c.in-Ok-Some.ensures.gives
    c.in-Ok-Some.body.now c.in_ok-row-in-Ok-Some.field-0 c.in-Some.row c.taken_of.result is c.in_ok-row-in-Ok-Some.ensures.reads c.in-Some.is c.taken_of.ensures

pub returns-in-None : goal.returns-in-None
returns-in-None c =
    let text : Option (List ℕ) = option_map (λ body. body.now) c.in-Ok-Some.field-0 in
    let is : text ≡ Some c.in-Ok-Some.body.now = ap (option_map (λ body. body.now)) c.in-Ok-Some.field-0-is in
    finds_none c.args.count c.args.bytes.now c.new-input.result (are_bytes c.args.bytes.now c.type_inv.bytes) c.new-input.ensures c.read_text.new.input text c.in-Ok-Some.ensures.gives
    c.in-Ok-Some.body.now c.in_ok-row-in-Ok-Some.field-0 is c.in_ok-row-in-Ok-Some.ensures.reads c.in-None.is

pub returns-in-Ok-None : goal.returns-in-Ok-None
returns-in-Ok-None c =
    let text : Option (List ℕ) = option_map (λ body. body.now) c.in-Ok-None.field-0 in
    let is : text ≡ None = ap (option_map (λ body. body.now)) c.in-Ok-None.field-0-is in
    finds_end c.args.count c.args.bytes.now c.new-input.result (are_bytes c.args.bytes.now c.type_inv.bytes) c.new-input.ensures c.read_text.new.input text c.in-Ok-None.ensures.gives
    c.taken_of-in-Ok-None.result is c.taken_of-in-Ok-None.ensures

pub returns-in-Err-Part : goal.returns-in-Err-Part
returns-in-Err-Part c =
    finds_part c.args.count c.args.bytes.now c.new-input.result (are_bytes c.args.bytes.now c.type_inv.bytes) c.new-input.ensures
    (subst (λ (e : Unread). Fails e (text_in_feed c.args.count c.new-input.result)) c.in-Err-Part.field-0-is c.in-Err-Part.ensures.gives)

pub returns-in-Err-Wrong : goal.returns-in-Err-Wrong
returns-in-Err-Wrong c =
    finds_wrong c.args.count c.args.bytes.now c.new-input.result (are_bytes c.args.bytes.now c.type_inv.bytes) c.new-input.ensures
    (subst (λ (e : Unread). Fails e (text_in_feed c.args.count c.new-input.result)) c.in-Err-Wrong.field-0-is c.in-Err-Wrong.ensures.gives)
