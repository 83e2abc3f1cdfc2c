use Rattle.std.proofs.Common.{rules, ◌≡◌, ◌∷◌, [], codes, string_bytes}
use Rattle.hq_doors.specs.FileNames.{IsFileName}
use Rattle.hq_doors.proofs.Forms.{two_items, ok_is_form, form_is_no_usage}
use Rattle.hq_doors.proofs.words.read_words.Goals as goal

pub returns-in-len2-clause-form : goal.returns-in-len2-clause-form
returns-in-len2-clause-form c =
    let are : c.args.words.now ≡ c.word-item.result ∷ c.file-item.result ∷ [] = two_items _ _ _ c.in-len2.len_at_least c.in-len2.len_below c.word-item.is c.file-item.is in
    let run : string_bytes c.word-item.result ≡ codes "run" = search rules in
    let is_file : IsFileName (string_bytes c.file-item.result) = search rules in
    ok_is_form _ _ _ _ are run is_file (search rules)

pub returns-in-len2-clause-no_form : goal.returns-in-len2-clause-no_form
returns-in-len2-clause-no_form c =
    let are : c.args.words.now ≡ c.word-item.result ∷ c.file-item.result ∷ [] = two_items _ _ _ c.in-len2.len_at_least c.in-len2.len_below c.word-item.is c.file-item.is in
    let run : string_bytes c.word-item.result ≡ codes "run" = search rules in
    let is_file : IsFileName (string_bytes c.file-item.result) = search rules in
    form_is_no_usage _ _ _ _ are run is_file c.run_file.ensures.err
