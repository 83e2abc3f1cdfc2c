-- The texts of more replies.
use Rattle.std.proofs.Common.{◌≡◌, List, [], ◌∷◌, ◌++◌, Option, None, Some, refl, sym, ◌∙◌, ap, append_assoc}
use Rattle.hq_reply.specs.declared.reply.Reply.{Reply}
use Rattle.hq_reply.specs.Texts.{reply_text, replies_text}

-- the texts of two lists stand one behind another
pub replies_text-append : (xs ys : List (Option Reply)) → replies_text (xs ++ ys) ≡ replies_text xs ++ replies_text ys
replies_text-append [] ys = refl
replies_text-append (None ∷ xs) ys = replies_text-append xs ys
replies_text-append (Some reply ∷ xs) ys =
    ap (λ texts. reply_text reply ++ texts) (replies_text-append xs ys)
    ∙ sym (append_assoc (reply_text reply) (replies_text xs) (replies_text ys))
