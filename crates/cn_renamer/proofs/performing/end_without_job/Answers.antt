use Rattle.cn_renamer.proofs.Common.{string_bytes, ◌≡◌, ◌∙◌, err_from_is_err_and, written-map, until_output}
use Rattle.cn_renamer.proofs.performing.end_without_job.Goals as goal

pub returns-in_err-write_text-in-Help-clause-written : goal.returns-in_err-write_text-in-Help-clause-written
returns-in_err-write_text-in-Help-clause-written g c known =
    let fault = err_from_is_err_and c.from_residual.result c.from_residual.ensures.1 in
    let why = c.in_err-write_text-in-Help.field-0.0 in
    rw (c.in-Help.is, fault.1, fault.2) (
    written-map g.W.Write.contents _ (λ text. text ≡ string_bytes c.in-Help.help) (until_output why) c.args.writer.now
    c.write_text.new.writer
    (λ text is. is ∙ c.as_bytes.ensures.value) c.in_err-write_text-in-Help.ensures)
