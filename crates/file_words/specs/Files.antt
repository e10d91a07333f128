-- The account of a file.
use Rattle.file_words.specs.declared.account.Account.{Account}
use Rattle.file_words.specs.declared.word_file.WordFile.{WordFile}

-- all calls that were made on the file
abbrev pub account_of : WordFile → Account
account_of file = file.account
