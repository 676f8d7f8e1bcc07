-- What is found at the front of bytes, by what was read of them.
use Rattle.std.proofs.Common.{◌≡◌, ℕ, ◌-◌, ◌<◌, List, [], length, Option, Some, None, sym, ap, ◌∙◌, subst}
use Rattle.std.specs.Prelude.{option_map}
use Rattle.spelling.specs.Front as front
use Rattle.spelling.specs.Form.{AreBytes}
use Rattle.willow_entry.specs.RowBody.{ReadsBody}
use Rattle.cap_codec.specs.Rows.{RawValue, IsRawRow, row_of}
use Rattle.ns_state.specs.declared.live_log.TheConstants.{LOG_LIMIT}
use Rattle.session_rules.specs.Messages.{ArePart}
use Rattle.row_intake.specs.Found.{IsFound, GoWrong}
use Rattle.sync_follow.specs.Grammar.{FedRow, FeedEnd, text_in_feed, feed_seen}
use Rattle.sync_follow.specs.Hearing.{text_of}
use Rattle.sync_follow.proofs.Grammar.{part_found, wrong_found, row_found, row_room, no_row_found, end_found}

module _ (count : ℕ) (bytes input : List ℕ) (are : AreBytes bytes) (all : input ≡ bytes) where
  module _ (left : List ℕ) (text : Option (List ℕ)) (gives : text_in_feed count input ≡ front.Whole (text_of text) left) where
    whole_as : (other : Option (List ℕ)) → text ≡ other → text_in_feed count bytes ≡ front.Whole (text_of other) left
    whole_as other is = ap (text_in_feed count) (sym all) ∙ gives ∙ ap (λ t. front.Whole (text_of t) left) is

    pub finds_row : (body : List ℕ) (o : Option RawValue) (row : RawValue) (taken : ℕ) → text ≡ Some body → ReadsBody IsRawRow body (option_map row_of o) → o ≡ Some row → taken ≡ length bytes - length left
        → IsFound (feed_seen count) bytes (FedRow (row_of row)) taken × (count < LOG_LIMIT)
    finds_row body o row taken is reads some same =
        let whole = whole_as (Some body) is in (
          subst (IsFound (feed_seen count) bytes (FedRow (row_of row))) (sym same) (row_found count bytes are body left (row_of row) whole (subst (λ x. ReadsBody IsRawRow body (option_map row_of x)) some reads)),
          row_room count bytes are body left whole,
        )

    pub finds_none : (body : List ℕ) (o : Option RawValue) → text ≡ Some body → ReadsBody IsRawRow body (option_map row_of o) → o ≡ None → GoWrong (feed_seen count) [] bytes
    finds_none body o is reads none = no_row_found count bytes are body left (whole_as (Some body) is) (subst (λ x. ReadsBody IsRawRow body (option_map row_of x)) none reads)

    pub finds_end : (taken : ℕ) → text ≡ None → taken ≡ length bytes - length left → IsFound (feed_seen count) bytes FeedEnd taken
    finds_end taken is same = subst (IsFound (feed_seen count) bytes FeedEnd) (sym same) (end_found count bytes are left (whole_as None is))

  pub finds_part : text_in_feed count input ≡ front.Part → ArePart (feed_seen count) [] bytes
  finds_part e = part_found count bytes (ap (text_in_feed count) (sym all) ∙ e)

  pub finds_wrong : text_in_feed count input ≡ front.Wrong → GoWrong (feed_seen count) [] bytes
  finds_wrong e = wrong_found count bytes are (ap (text_in_feed count) (sym all) ∙ e)
